-- What is left of a form of a unit, met and expanded by two expansions that differ in definitions alone, until work ends.
use Rattle.std.proofs.Common.{◌≡◌, ℕ, List, [], ◌∷◌, Bool, true, false, cond, Option, Some, None, Result, Ok, Err, refl, ap, ◌∙◌}
use Rattle.std.specs.Prelude.{nat_lt}
use Rattle.scheme_model.specs.Cores.{Part, Parts}
use Rattle.scheme_model.specs.Steps.{Broken}
use Rattle.scheme_model.specs.Order.{Item, Left, Ops, meet_all}
use Rattle.scheme_model.specs.Expression.{expand, item_part}
use Rattle.scheme_model.specs.UnitExpansion.{max_depth, max_total, nodes_in, ◌then◌, going, unless_over, with_part, before_parts, items_parts, form_parts}
use Rattle.expansion_laws.proofs.AlikeSteps.{Likeness, ops, other, After, On, after_then, on_after, here_after, all_met_after, all_met_same}
use Rattle.expansion_laws.proofs.AlikeSides.{item_alike}

module _ {E A L S : Type 0} (loud : Ops E A L S) (k : Likeness loud) (turns : ℕ) (fs : List ℕ) (e : E) where
  abbrev Ends : Type 0
  Ends = Option (Result Parts Broken) × S

  -- the same, in a state after s
  abbrev pub SameWork : S → Ends → Ends → Type 0
  SameWork s q m = (m ≡ q) × After loud k s q.1

  abbrev one_way : List (Item A) → S → Ends
  one_way is s = items_parts (ops loud k) fs (item_part (expand (ops loud k) turns) (ops loud k) max_depth e) is s

  abbrev other_way : List (Item A) → S → Ends
  other_way is s = items_parts (other loud k) fs (item_part (expand (other loud k) turns) (other loud k) max_depth e) is s

  part_before : (p : Part) (s : S) (q m : Ends) → SameWork s q m → SameWork s (q then λ r. going (with_part p r)) (m then λ r. going (with_part p r))
  part_before p s (None, t) m h = (ap (λ (z : Ends). z then λ r. going (with_part p r)) h.0, h.1)
  part_before p s (Some r, t) m h = (ap (λ (z : Ends). z then λ r. going (with_part p r)) h.0, h.1)

  by_total : (is : List (Item A)) (s : S) → On loud k e s → ((t : S) → On loud k e t → SameWork t (one_way is t) (other_way is t)) → (r : Result Part Broken) (t : S) → After loud k s t → (over : Bool) →
      SameWork s (cond over (None, t) (Some r, t) then before_parts (one_way is)) (cond over (None, t) (Some r, t) then before_parts (other_way is))
  by_total is s h next r t a true = (refl, a)
  by_total is s h next (Err x) t a false = (refl, a)
  by_total is s h next (Ok p) t a false =
      let ih = next t (on_after loud k e s t h a) in
      part_before p s (one_way is t) (other_way is t) (ih.0, after_then loud k s t (one_way is t).1 a ih.1)

  pub items_work : (is : List (Item A)) (s : S) → On loud k e s → SameWork s (one_way is s) (other_way is s)
  items_work [] s h = (refl, here_after loud k s h.0)
  items_work (i ∷ is) s h =
      let q = item_part (expand (ops loud k) turns) (ops loud k) max_depth e i s in
      let a = item_alike loud k turns max_depth e i s h in
      let w = by_total is s h (λ t g. items_work is t g) q.0 q.1 a.after (nat_lt max_total (nodes_in (ops loud k) fs q.1)) in
      (ap (λ (z : Result Part Broken × S). unless_over (other loud k) fs z then before_parts (other_way is)) a.same ∙ w.0, w.1)

  pub form_work : (r : Result (Left A) Broken) (s : S) → On loud k e s → SameWork s (form_parts (ops loud k) (expand (ops loud k) turns) e fs r s) (form_parts (other loud k) (expand (other loud k) turns) e fs r s)
  form_work (Err b) s h = (refl, here_after loud k s h.0)
  form_work (Ok l) s h =
      let t = meet_all (ops loud k) e l.uses s in
      let a = all_met_after loud k e l.uses s h.0 in
      let w = items_work l.items t (on_after loud k e s t h a) in
      (ap (other_way l.items) (all_met_same loud k e l.uses s) ∙ w.0, after_then loud k s t (one_way l.items t).1 a w.1)
