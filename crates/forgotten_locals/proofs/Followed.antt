-- Two ways follow the work in which every form is expanded: that in which kept forms are put into their places, and that in which what is
-- local is forgotten besides.
use Rattle.std.proofs.Common.{◌≡◌, ◌↔◌, ℕ, [], Option, Some, None, Result, Ok, Err, sym}
use Rattle.scheme_model.specs.Ident.{Ident}
use Rattle.scheme_model.specs.Steps.{Broken}
use Rattle.scheme_model.specs.Order.{Left}
use Rattle.scheme_model.specs.Questions.{Around}
use Rattle.form_laws.specs.Begins.{RestBegins}
use Rattle.kept_forms.specs.KeptForms.{KeptParts}
use Rattle.kept_forms.specs.Carried.{RestKept}
use Rattle.kept_forms.proofs.Bares.{bare_around, form_begins_too, rest_begins_too}
use Rattle.kept_forms.proofs.Numbers.{LeftIs}
use Rattle.kept_forms.proofs.OneForm.{pass_like, rest_like}
use Rattle.forgotten_locals.specs.Outside.{macros_outside, around_outside}
use Rattle.forgotten_locals.specs.Ways.{keeping, forgetting}
use Rattle.forgotten_locals.proofs.Outsides.{form_outside, rest_outside}
use Rattle.forgotten_locals.proofs.OneTurn.{pass_kept, rest_kept_too, pass_kept_bare, rest_kept_bare, first_outside, second_outside}
use Rattle.forgotten_locals.proofs.Turns.{Follows}

pub keeping_follows : (turns : ℕ) → Follows (λ ks. ks) (λ ps. ps) (λ ds. ds) turns (keeping turns)
keeping_follows turns = record {
  kept = λ v w same t o h. (pass_kept_bare v w (sym same) turns t o, pass_kept_bare w v same turns t o);
  rest_kept = λ v w same r o d h. (rest_kept_bare v w (sym same) turns o, rest_kept_bare w v same turns o);
  begins = λ v w same t h. form_begins_too v w (sym same) t h;
  rest_begins = λ v w same r h. rest_begins_too v w (sym same) r h;
  first = λ v w same t o new h k. pass_like v w (sym same) turns t o new h k;
  second = λ v w same fs r o d n h k. rest_like v w (sym same) turns fs r o d n h k;
}

-- where there is a rest, the form isn't broken
rest_either : (v w : Around) → bare_around v ≡ bare_around (around_outside w) → (turns : ℕ) (r : Result (Left Ident) Broken) (o : Option KeptParts) → LeftIs r o → RestBegins w r → RestKept v turns o ↔ RestKept w turns o
rest_either v w same turns r None d h = ((λ k. tt), (λ k. tt))
rest_either v w same turns (Ok l) (Some c) d h =
    let u = around_outside w in let x = rest_kept_too w turns h.state (Some c) in
    ((λ k. x.0 (rest_kept_bare v u (sym same) turns (Some c) k)), (λ k. rest_kept_bare u v same turns (Some c) (x.1 k)))
rest_either v w same turns (Err e) (Some c) d h = let q : Err e ≡ Ok c.left = d in absurd cc

pub forgetting_follows : (turns : ℕ) → Follows macros_outside (λ ps. []) (λ ds. []) turns (forgetting turns)
forgetting_follows turns = record {
  kept = λ v w same t o h.
      let u = around_outside w in let x = pass_kept w turns h.state t o in
      ((λ k. x.0 (pass_kept_bare v u (sym same) turns t o k)), (λ k. pass_kept_bare u v same turns t o (x.1 k)));
  rest_kept = λ v w same r o d h. rest_either v w same turns r o d h;
  begins = λ v w same t h. form_begins_too v (around_outside w) (sym same) t (form_outside w t h);
  rest_begins = λ v w same r h. rest_begins_too v (around_outside w) (sym same) r (rest_outside w r h);
  first = λ v w same t o new h k. first_outside v w same turns t o new h k;
  second = λ v w same fs r o d n h k. second_outside v w same turns fs r o d n h k;
}
