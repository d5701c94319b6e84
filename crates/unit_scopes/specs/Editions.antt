-- The rules of macros by their editions.
use Rattle.std.specs.Prelude.{◌≡◌, ℕ, false, Option, None}
use Rattle.scheme_model.specs.Ident.{Ident as Identifier}
use Rattle.scheme_model.specs.Meaning.{Meaning}
use Rattle.scheme_model.specs.Order.{Transformer}
use Rattle.scheme_model.specs.Questions.{bare_macro}
use Rattle.scheme_model.specs.RulesShape.{option_map}
use Rattle.scheme_model.specs.ScopedExpansion.{Frames, ScopedState, macro_at}
use Rattle.syntax_tree.specs.Meant.{IsMeaning}
use Rattle.syntax_tree.specs.Names.{Names}
use Rattle.syntax_tree.specs.declared.meaning.Meaning as code_meaning
use Rattle.form_notes.specs.Noted.{is_local}
use Rattle.unit_scopes.specs.Macros.{edition_in}
use Rattle.unit_scopes.specs.declared.macros.Macros.{Macros}

-- the edition of each macro that isn't local tells its rules, and 0 tells that there are none
pub record EditionsTell (names : Names) (ms : Macros) (s : ScopedState) (editions : ℕ → Option (Transformer Frames Identifier)) : Type 0 where
  pub none : editions 0 ≡ None
  pub tells : (form : ℕ) (c : code_meaning.Meaning) (m : Meaning) → IsMeaning names s.unit form c m → is_local m ≡ false → editions (edition_in ms form c) ≡ option_map bare_macro (macro_at s.macros m)
