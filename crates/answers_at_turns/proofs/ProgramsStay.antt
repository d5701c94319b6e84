-- A unit of a program is a program at each of its turns, or at none.
use Rattle.std.proofs.Common.{◌≡◌, ℕ, List, [], ◌∷◌, Result, Ok, Err, refl, ap, ◌∙◌}
use Rattle.scheme_model.specs.Ident.{Ident}
use Rattle.scheme_model.specs.Trees.{Tree}
use Rattle.scheme_model.specs.Requirements.{Known}
use Rattle.scheme_model.specs.Order.{Note, Left}
use Rattle.scheme_model.specs.Steps.{Broken}
use Rattle.scheme_model.specs.Program.{enough_turns}
use Rattle.scheme_model.specs.ScopedExpansion.{FramedIdent, ScopedState}
use Rattle.scheme_model.specs.Questions.{Around}
use Rattle.scheme_model.specs.FormsAlike.{set_aside, finish}
use Rattle.form_laws.specs.Begins.{Each, RestBegins}
use Rattle.form_laws.proofs.FormLaws.{set_itself, finish_itself}
use Rattle.carried_forms.specs.Worked.{WorkedForm, GoneForm, around_form, gone_through, gone_on, worked_forms}
use Rattle.carried_laws.specs.AtWork.{IsAtWork}

each_more : {X : Type 0} (P Q : X → Type 0) → ((x : X) → P x → Q x) → (xs : List X) → Each P xs → Each Q xs
each_more P Q f [] h = tt
each_more P Q f (x ∷ xs) h = (f x h.0, each_more P Q f xs h.1)

each_both : {X : Type 0} (P Q R : X → Type 0) → ((x : X) → P x → Q x → R x) → (xs : List X) → Each P xs → Each Q xs → Each R xs
each_both P Q R f [] h k = tt
each_both P Q R f (x ∷ xs) h k = (f x h.0 k.0, each_both P Q R f xs h.1 k.1)

finish_program : (w : Around) (r : Result (Left Ident) Broken) → RestBegins w r → (finish w enough_turns r).1.program ≡ w.state.program
finish_program w (Ok l) b = ap (λ (z : ScopedState). z.program) (finish_itself w enough_turns l b).state
finish_program w (Err e) b = refl

module _ (known : Known) (n : ℕ) where
  abbrev First : ScopedState → WorkedForm → Type 0
  First s g = g.around.state.program ≡ s.program

  abbrev Later : ScopedState → WorkedForm → Type 0
  Later s g = g.later.state.program ≡ s.program

  firsts : (ts : List (ℕ × Tree Ident)) (ns : List (Note FramedIdent)) (s u : ScopedState) → let q = gone_through known ts ns s in Each (IsAtWork n) (gone_on known q.0 u) → Each (First s) (gone_on known q.0 u) × (q.1.program ≡ s.program)
  firsts [] ns s u h = (tt, refl)
  firsts (t ∷ ts) ns s u h =
      let v = around_form known ns s t.0 in let q = set_aside v enough_turns t.1 in
      let e : q.1.program ≡ s.program = ap (λ (z : ScopedState). z.program) (set_itself v enough_turns t.1 h.0.begun).state in
      let next = (finish (around_form known [] u t.0) enough_turns q.0.left).1 in
      let rest = firsts ts q.0.notes q.1 next h.1 in
      ((refl, each_more (First q.1) (First s) (λ g a. a ∙ e) (gone_on known (gone_through known ts q.0.notes q.1).0 next) rest.0), rest.1 ∙ e)

  laters : (gs : List GoneForm) (u : ScopedState) → Each (IsAtWork n) (gone_on known gs u) → Each (Later u) (gone_on known gs u)
  laters [] u h = tt
  laters (g ∷ gs) u h =
      let w = around_form known [] u g.form in let next = (finish w enough_turns g.left).1 in
      (refl, each_more (Later next) (Later u) (λ k a. a ∙ finish_program w g.left h.0.rest) (gone_on known gs next) (laters gs next h.1))

  abbrev pub Same : ScopedState → WorkedForm → Type 0
  Same s g = First s g × Later s g

  pub programs_stay : (ts : List (ℕ × Tree Ident)) (s : ScopedState) → Each (IsAtWork n) (worked_forms known ts s) → Each (Same s) (worked_forms known ts s)
  programs_stay ts s h =
      let q = gone_through known ts [] s in let a = firsts ts [] s q.1 h in
      each_both (First s) (Later q.1) (Same s) (λ g x y. (x, y ∙ a.1)) (worked_forms known ts s) a.0 (laters q.0 q.1 h)
