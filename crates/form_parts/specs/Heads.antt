-- What the heads of the code stand for.
use Rattle.std.specs.Prelude.{◌≡◌, Some}
use Rattle.scheme_model.specs.Meaning.{Head, IsCore, IsAuxiliary, IsMacro, IsNone}
use Rattle.scheme_model.specs.Keywords.{Auxiliary, IsSyntaxRules, IsUnquote, IsUnquoteSplicing, IsOther}
use Rattle.core_forms.specs.Ends.{keyword_as}
use Rattle.form_parts.specs.declared.heads.Auxiliary as code_auxiliary
use Rattle.form_parts.specs.declared.heads.Auxiliary.TheVariants as auxiliaries
use Rattle.form_parts.specs.declared.heads.Head as code_head
use Rattle.form_parts.specs.declared.heads.Head.TheVariants as heads

abbrev pub auxiliary_as : code_auxiliary.Auxiliary → Auxiliary
auxiliary_as auxiliaries.SyntaxRules = IsSyntaxRules
auxiliary_as auxiliaries.Unquote = IsUnquote
auxiliary_as auxiliaries.UnquoteSplicing = IsUnquoteSplicing
auxiliary_as auxiliaries.Other = IsOther

-- a macro's head is told without what means it
abbrev pub IsHead : code_head.Head → Head → Type 0
IsHead (heads.Core k) (IsCore c) = keyword_as k ≡ Some c
IsHead (heads.Core k) (IsAuxiliary a) = ⊥
IsHead (heads.Core k) (IsMacro m) = ⊥
IsHead (heads.Core k) IsNone = ⊥
IsHead (heads.Auxiliary a) (IsCore c) = ⊥
IsHead (heads.Auxiliary a) (IsAuxiliary b) = auxiliary_as a ≡ b
IsHead (heads.Auxiliary a) (IsMacro m) = ⊥
IsHead (heads.Auxiliary a) IsNone = ⊥
IsHead heads.Macro (IsCore c) = ⊥
IsHead heads.Macro (IsAuxiliary a) = ⊥
IsHead heads.Macro (IsMacro m) = Unit {0}
IsHead heads.Macro IsNone = ⊥
IsHead heads.Other (IsCore c) = ⊥
IsHead heads.Other (IsAuxiliary a) = ⊥
IsHead heads.Other (IsMacro m) = ⊥
IsHead heads.Other IsNone = Unit {0}
