-- What a form comes to where it may begin may be kept from there.
use Rattle.std.proofs.Common.{◌≡◌, ℕ, List, [], ◌∷◌, map, Option, Some, Result, Ok, Err, refl, sym, ap, ◌∙◌}
use Rattle.scheme_model.specs.Ident.{Ident}
use Rattle.scheme_model.specs.Trees.{Tree}
use Rattle.scheme_model.specs.Cores.{Bound, Part, Expression as expression_part, Define as define_part, Values as values_part, Fields as fields_part, Syntax as syntax_part}
use Rattle.scheme_model.specs.Steps.{Broken}
use Rattle.scheme_model.specs.Order.{Left}
use Rattle.scheme_model.specs.Substitution.{definition_count}
use Rattle.scheme_model.specs.ScopedExpansion.{ScopedState}
use Rattle.scheme_model.specs.Questions.{Around}
use Rattle.scheme_model.specs.FormsAlike.{bound_moved, part_with, or_fault, set_aside, start, set_aside_asking, questions_of_pass, questions_of_left}
use Rattle.form_laws.specs.Begins.{FormBegins, LeftBegins}
use Rattle.form_laws.proofs.FormLaws.{set_itself}
use Rattle.kept_forms.specs.KeptForms.{KeptItem, KeptParts, counts_at, item_moved, kept_moved, KeptAside, put_aside}
use Rattle.kept_forms.specs.Carried.{kept_aside, kept_parts, kept_form, no_counts, PassKept, RestKept, FormFits}
use Rattle.kept_forms.proofs.Bares.{answers_itself}
use Rattle.kept_forms.proofs.OneForm.{moved_none, binder_still, names_still, left_still, rest_still}
use Rattle.kept_forms.proofs.UsesCounted.{counts_here}

module _ (f : Bound → Bound) (none : (x : Bound) → f x ≡ x) where
  part_still : (p : Part) → part_with f p ≡ p
  part_still (expression_part c) = refl
  part_still (define_part b c) = ap (λ d. define_part d c) (binder_still f none b)
  part_still (values_part bs c) = ap (λ ns. values_part (record { names = ns; rest = bs.rest }) c) (names_still f none bs.names)
  part_still (fields_part r) = ap (λ ns. fields_part (record r { binders = ns })) (names_still f none r.binders)
  part_still (syntax_part m) = ap (λ b. syntax_part (record { binder = b; rules = m.rules; leaves = m.leaves })) (binder_still f none m.binder)

  or_still : (r : Result Part Broken) → or_fault (part_with f) r ≡ r
  or_still (Ok p) = ap (λ z. Ok z) (part_still p)
  or_still (Err e) = refl

  items_still : (ks : List KeptItem) → map (item_moved f) ks ≡ ks
  items_still [] = refl
  items_still (k ∷ ks) = let a = or_still k.part in let b = items_still ks in λ j. record { part = a j; moment = k.moment } ∷ b j

  pub kept_still : (k : KeptParts) → kept_moved f k ≡ k
  kept_still k = let a = left_still f none k.left in let b = items_still k.items in λ j. record { left = a j; before = k.before; begun = k.begun; met = k.met; items = b j }

pub pass_itself : (w : Around) (turns : ℕ) (t : Tree Ident) (o : Option KeptParts) → start w.state ≡ no_counts → FormBegins w t → PassKept w turns t (Some (kept_form (kept_aside w turns t) o))
pass_itself w turns t o new h = (w, record { unit = refl; form = refl; new = new; begun = h; answers = answers_itself w w refl (questions_of_pass w turns t) }, refl)

pub rest_itself : (w : Around) (turns n : ℕ) (l : Left Ident) → LeftBegins w l → RestKept w turns (Some (kept_parts w turns n l))
rest_itself w turns n l h =
    let f = bound_moved n n in
    (w, l, n, n, record { unit = refl; form = refl; begun = h; answers = answers_itself w w refl (questions_of_left w turns (Ok l)) }, sym (kept_still f (moved_none n) (kept_parts w turns n l)))

pub form_fits : (w v : Around) (turns : ℕ) (t : Tree Ident) (l : Left Ident) → FormBegins w t → (set_aside w turns t).0.left ≡ Ok l → start v.state ≡ counts_at w.state.form (set_aside w turns t).1
    → FormFits (Some (kept_form (kept_aside w turns t) (Some (kept_parts v turns (definition_count w.state.table w.state.unit) l))))
form_fits w v turns t l h d e =
    let n = definition_count w.state.table w.state.unit in
    let x = set_itself w turns t h in
    let q = set_aside_asking w turns t in
    (e ∙ ap (λ (s : ScopedState). counts_at w.state.form s) x.state ∙ counts_here w q.1.moment, rest_still (bound_moved n n) (moved_none n) q.0.left ∙ sym x.rest ∙ d)

pub kept_fits : (w v : Around) (turns : ℕ) (a : KeptAside) (m : Left Ident) → (put_aside w a).0.left ≡ Ok m → start v.state ≡ counts_at w.state.form (put_aside w a).1
    → FormFits (Some (kept_form a (Some (kept_parts v turns (definition_count w.state.table w.state.unit) m))))
kept_fits w v turns a m d e = (e ∙ counts_here w a.moment, d)
