-- A core form as an expression is read as its shape, and then done as the shape is.
use Rattle.std.proofs.Common.{◌≡◌, ℕ, Option, true, Result, Ok, Err, refl, ap, ◌∙◌}
use Rattle.scheme_model.specs.Trees.{Tree, Trees, Tail}
use Rattle.scheme_model.specs.ExpansionFaults.{Fault, BadPlace, ◌>>◌}
use Rattle.scheme_model.specs.Keywords.{CoreKeyword, IsQuote, IsQuasiquote, IsLambda, IsCaseLambda, IsIf, IsSet, IsBegin, IsDefine, IsDefineValues, IsDefineRecordType, IsDefineSyntax, IsLetSyntax, IsLetrecSyntax, IsCondExpand, IsSyntaxError, IsInclude}
use Rattle.scheme_model.specs.Quasiquote.{Mark, Pieces, quasi_of}
use Rattle.scheme_model.specs.Shapes.{one_of, some_of, if_of, lambda_of, case_lambda_of, named_tree_of, error_text_of, definition_of, values_of, local_macros_of, syntax_of}
use Rattle.scheme_model.specs.Requirements.{Known}
use Rattle.scheme_model.specs.Ident.{Ident as Identifier, same_ident}
use Rattle.scheme_model.specs.Cores.{Core}
use Rattle.scheme_model.specs.Steps.{Broken, Step, ◌>>=◌}
use Rattle.scheme_model.specs.Order.{Here, head_of, given}
use Rattle.scheme_model.specs.Expression.{Expander, mark_of, misplaced, chosen_sequence, core_form, quasi}
use Rattle.scheme_model.specs.ScopedExpansion.{Frames}
use Rattle.core_forms.specs.Forms.{Shape, Quoted, Quasi, Procedure, Procedures, Conditional, Assignment, Sequence, Local, Choices, ErrorText, choices_in, shape_of}
use Rattle.feature_requirements.specs.Judged.{chosen_among}
use Rattle.expander.specs.CoreSteps.{core_step}
use Rattle.feature_requirements.proofs.ChoiceLaws.{chosen_is}
use Rattle.noted_steps.specs.Asked.{form_asked}
use Rattle.noted_steps.specs.Noting.{Noting, noting}

abbrev as_it_is : Identifier → Identifier
as_it_is = λ i. i

-- what is read of a kind of shape goes on as that kind does
given_then : {B : Type 0} (here : Here) (r : Result B (Fault Identifier)) (make : B → Shape) (step : Shape → Step Noting Core) (s : Noting) →
    (given as_it_is here r s >>= λ b. step (make b)) ≡ (given as_it_is here (r >> λ b. Ok (make b)) s >>= step)
given_then here (Ok b) make step s = refl
given_then here (Err e) make step s = refl

-- a definition has no place
given_misplaced : {B : Type 0} (here : Here) (r : Result B (Fault Identifier)) (step : Shape → Step Noting Core) (s : Noting) →
    (given as_it_is here r s >>= misplaced here) ≡ (given {B = Shape} as_it_is here (r >> λ b. Err BadPlace) s >>= step)
given_misplaced here (Ok b) step s = refl
given_misplaced here (Err e) step s = refl

-- two readings one after another, and then what is done
given_twice : {B C : Type 0} (here : Here) (r : Result B (Fault Identifier)) (f : B → Result C (Fault Identifier)) (step : C → Step Noting Core) (s : Noting) →
    (given as_it_is here (r >> f) s >>= step) ≡ (given as_it_is here r s >>= λ b t. given as_it_is here (f b) t >>= step)
given_twice here (Ok b) f step s = refl
given_twice here (Err e) f step s = refl

-- a quasiquotation goes on by its pieces
quasi_then : (here : Here) (t : Tree Identifier) (r : Result (Pieces Identifier) (Fault Identifier)) (go : Pieces Identifier → Step Noting Core) (step : Shape → Step Noting Core) (s : Noting) →
    ((p : Pieces Identifier) → go p s ≡ step (Quasi t p) s) → (given as_it_is here r s >>= go) ≡ (given as_it_is here (r >> λ p. Ok (Quasi t p)) s >>= step)
quasi_then here t (Ok p) go step s h = h p
quasi_then here t (Err e) go step s h = refl

given_quasi : (here : Here) (r : Result (Tree Identifier) (Fault Identifier)) (read : Tree Identifier → Result (Pieces Identifier) (Fault Identifier)) (go : Pieces Identifier → Step Noting Core) (step : Shape → Step Noting Core) (s : Noting) →
    ((t : Tree Identifier) (p : Pieces Identifier) → go p s ≡ step (Quasi t p) s) → (given as_it_is here (r >> read) s >>= go) ≡ (given as_it_is here (r >> λ t. read t >> λ p. Ok (Quasi t p)) s >>= step)
given_quasi here (Ok t) read go step s h = quasi_then here t (read t) go step s (h t)
given_quasi here (Err e) read go step s h = refl

module _ (known : Known) (f : Expander Frames Identifier Noting) (depth : ℕ) (here : Here) (e : Frames) (s : Noting) where
  abbrev steps : CoreKeyword → Shape → Step Noting Core
  steps = core_step f (noting known) depth here e

  abbrev mark : Identifier → Option Mark
  mark i = mark_of (head_of (noting known) e s i)

  abbrev chosen : Noting → Result (Option (Trees Identifier)) (Fault Identifier) → Result Core Broken × Noting
  chosen t r = given as_it_is here r t >>= chosen_sequence f (noting known) depth here e

  pub core_form_is : (k : CoreKeyword) (ts : Trees Identifier) (tail : Tail Identifier) →
      core_form f (noting known) depth here e k ts tail s
      ≡ (given as_it_is here (shape_of k true (λ i. mark_of (head_of (noting known) e s i)) ts tail) (form_asked known e k ts tail s) >>= core_step f (noting known) depth here e k)
  core_form_is IsQuote ts tail = given_then here (one_of ts tail) Quoted (steps IsQuote) s
  core_form_is IsQuasiquote ts tail = given_quasi here (one_of ts tail) (quasi_of mark) (quasi f (noting known) depth here e) (steps IsQuasiquote) (form_asked known e IsQuasiquote ts tail s) (λ t p. refl)
  core_form_is IsLambda ts tail = given_then here (lambda_of same_ident ts tail) Procedure (steps IsLambda) s
  core_form_is IsCaseLambda ts tail = given_then here (case_lambda_of same_ident ts tail) Procedures (steps IsCaseLambda) s
  core_form_is IsIf ts tail = given_then here (if_of ts tail) Conditional (steps IsIf) s
  core_form_is IsSet ts tail = given_then here (named_tree_of ts tail) Assignment (steps IsSet) s
  core_form_is IsBegin ts tail = given_then here (some_of ts tail) Sequence (steps IsBegin) s
  core_form_is IsDefine ts tail = given_misplaced here (definition_of same_ident ts tail) (steps IsDefine) s
  core_form_is IsDefineValues ts tail = given_misplaced here (values_of same_ident ts tail) (steps IsDefineValues) s
  core_form_is IsDefineRecordType ts tail = refl
  core_form_is IsDefineSyntax ts tail = given_misplaced here (syntax_of ts tail) (steps IsDefineSyntax) s
  core_form_is IsLetSyntax ts tail = given_then here (local_macros_of same_ident ts tail) Local (steps IsLetSyntax) s
  core_form_is IsLetrecSyntax ts tail = given_then here (local_macros_of same_ident ts tail) Local (steps IsLetrecSyntax) s
  core_form_is IsCondExpand ts tail =
      let t = form_asked known e IsCondExpand ts tail s in
      ap (chosen t) (chosen_is known ts tail)
      ∙ (given_twice here (some_of ts tail >> choices_in) (chosen_among known) (chosen_sequence f (noting known) depth here e) t
      ∙ given_then here (some_of ts tail >> choices_in) Choices (steps IsCondExpand) t)
  core_form_is IsSyntaxError ts tail = given_then here (error_text_of ts tail) ErrorText (steps IsSyntaxError) s
  core_form_is IsInclude ts tail = refl
