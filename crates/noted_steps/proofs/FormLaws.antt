-- What a core form asks before it is read, by its keyword.
use Rattle.std.proofs.Common.{◌≡◌, Option, Some, None, refl, sym, ap, ◌∙◌}
use Rattle.scheme_model.specs.Ident.{Ident as Identifier}
use Rattle.scheme_model.specs.Keywords.{CoreKeyword, IsQuote, IsQuasiquote, IsLambda, IsCaseLambda, IsIf, IsSet, IsBegin, IsDefine, IsDefineValues, IsDefineRecordType, IsDefineSyntax, IsLetSyntax, IsLetrecSyntax, IsCondExpand, IsSyntaxError, IsInclude}
use Rattle.scheme_model.specs.Requirements.{Known}
use Rattle.scheme_model.specs.ScopedExpansion.{Frames}
use Rattle.scheme_model.specs.Trees.{Trees, Tail}
use Rattle.core_forms.specs.Ends.{keyword_as}
use Rattle.core_forms.specs.declared.shape.CoreKeyword as code
use Rattle.core_forms.specs.declared.shape.CoreKeyword.TheVariants as word
use Rattle.noted_steps.specs.Asked.{form_asked, marks_asked, libraries_asked}
use Rattle.noted_steps.specs.Noting.{Noting}

-- the keyword that a word stands for
or_quote : Option CoreKeyword → CoreKeyword
or_quote (Some k) = k
or_quote None = IsQuote

module _ (known : Known) (fs : Frames) (ts : Trees Identifier) (tail : Tail Identifier) (s : Noting) where
  asked_by : (c : code.CoreKeyword) (j k : CoreKeyword) → keyword_as c ≡ Some j → keyword_as c ≡ Some k → form_asked known fs k ts tail s ≡ form_asked known fs j ts tail s
  unfolding or_quote
  asked_by c j k h e = ap (λ (o : Option CoreKeyword). form_asked known fs (or_quote o) ts tail s) (sym e ∙ h)

  pub marks_there : (c : code.CoreKeyword) (k : CoreKeyword) → c ≡ word.Quasiquote → keyword_as c ≡ Some k → form_asked known fs k ts tail s ≡ marks_asked known fs ts tail s
  marks_there c k h e = asked_by c IsQuasiquote k (ap keyword_as h) e

  pub libraries_there : (c : code.CoreKeyword) (k : CoreKeyword) → c ≡ word.CondExpand → keyword_as c ≡ Some k → form_asked known fs k ts tail s ≡ libraries_asked known ts tail s
  libraries_there c k h e = asked_by c IsCondExpand k (ap keyword_as h) e

  -- all others ask nothing
  pub none_there : (c : code.CoreKeyword) (k : CoreKeyword) → (c ≡ word.Quasiquote → ⊥) → (c ≡ word.CondExpand → ⊥) → keyword_as c ≡ Some k → form_asked known fs k ts tail s ≡ s
  none_there word.Quote k q l e = asked_by word.Quote IsQuote k refl e
  none_there word.Quasiquote k q l e = absurd (q refl)
  none_there word.Unquote k q l e = absurd cc
  none_there word.UnquoteSplicing k q l e = absurd cc
  none_there word.Lambda k q l e = asked_by word.Lambda IsLambda k refl e
  none_there word.CaseLambda k q l e = asked_by word.CaseLambda IsCaseLambda k refl e
  none_there word.If k q l e = asked_by word.If IsIf k refl e
  none_there word.Set k q l e = asked_by word.Set IsSet k refl e
  none_there word.Begin k q l e = asked_by word.Begin IsBegin k refl e
  none_there word.Define k q l e = asked_by word.Define IsDefine k refl e
  none_there word.DefineValues k q l e = asked_by word.DefineValues IsDefineValues k refl e
  none_there word.DefineRecordType k q l e = asked_by word.DefineRecordType IsDefineRecordType k refl e
  none_there word.DefineSyntax k q l e = asked_by word.DefineSyntax IsDefineSyntax k refl e
  none_there word.LetSyntax k q l e = asked_by word.LetSyntax IsLetSyntax k refl e
  none_there word.LetrecSyntax k q l e = asked_by word.LetrecSyntax IsLetrecSyntax k refl e
  none_there word.CondExpand k q l e = absurd (l refl)
  none_there word.SyntaxError k q l e = asked_by word.SyntaxError IsSyntaxError k refl e
  none_there word.Include k q l e = asked_by word.Include IsInclude k refl e
  none_there word.IncludeCi k q l e = asked_by word.IncludeCi IsInclude k refl e
