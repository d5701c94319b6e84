-- The forms of a unit are gone through and expanded within the turns.
use Rattle.std.proofs.Common.{ℕ, ◌+◌, ◌*◌, ◌≤◌, ◌<◌, List, [], ◌∷◌, map, Bool, true, false, Option, Some, None, Result, Ok, Err, arith, if◌then◌else◌}
use Rattle.std.specs.Prelude.{nat_lt}
use Rattle.scheme_model.specs.Trees.{Tree}
use Rattle.scheme_model.specs.Measures.{tree_size}
use Rattle.scheme_model.specs.Building.{max_nodes}
use Rattle.scheme_model.specs.Cores.{Parts, Part}
use Rattle.scheme_model.specs.Steps.{Broken, Step}
use Rattle.scheme_model.specs.Order.{Item, Left, Note, Pending, Pass, Ops, max_uses, run, meet_all}
use Rattle.scheme_model.specs.Expression.{Expander, expand, item_part}
use Rattle.scheme_model.specs.UnitExpansion.{Formed, max_depth, Work, ◌then◌, going, max_total, nodes_in, unless_over, LeftOf, one_form, passes, with_part, before_parts, items_parts, form_parts, finished, unit}
use Rattle.program_laws.specs.Turns.{Each}
use Rattle.program_laws.proofs.Faults.{Any}
use Rattle.program_laws.proofs.Steps.{ItemWithin, ItemsWithin, Keeps, Ended}
use Rattle.program_laws.proofs.Runs.{run_ends}
use Rattle.program_laws.proofs.Expressions.{item_ends, expand_ends}

-- where work doesn't end, this holds of what it comes to
abbrev pub Comes : {S X : Type 0} → (X → Type 0) → Option X × S → Type 0
Comes P (None, s) = Unit {0}
Comes P (Some x, s) = P x

then_comes : {S X Y : Type 0} (P : X → Type 0) (Q : Y → Type 0) (q : Option X × S) (f : X → Work S Y) → Comes P q → ((x : X) (s : S) → P x → Comes Q (f x s)) → Comes Q (q then f)
then_comes P Q (None, s) f h g = tt
then_comes P Q (Some x, s) f h g = g x s h

-- a tree with its number, of so many nodes at most
abbrev pub NumberedWithin : {A : Type 0} → ℕ → ℕ × Tree A → Type 0
NumberedWithin n t = tree_size t.1 ≤ n

module _ {E A L S : Type 0} (loud : Ops E A L S) (keeps : Keeps loud) (n need turns : ℕ) (large : max_nodes ≤ n) (enough : n + max_uses * max_nodes < need) (many : max_depth + (max_uses + need) < turns) (e : E) where
  -- nothing is asked
  abbrev ops : Ops E A L S
  ops = record loud { ask = λ qs s. s }

  over_by : {X : Type 0} (P : X → Type 0) (b : Bool) (q : X × S) → P q.0 → Comes P (if b then (None, q.1) else (Some q.0, q.1))
  over_by P true q h = tt
  over_by P false q h = h

  unless_comes : {X : Type 0} (P : X → Type 0) (fs : List ℕ) (q : X × S) → P q.0 → Comes P (unless_over ops fs q)
  unless_comes P fs q h = over_by P (nat_lt max_total (nodes_in ops fs q.1)) q h

  abbrev ItemsFit : Left A → Type 0
  ItemsFit l = ItemsWithin n l.items

  abbrev PassFits : Pass A L → Type 0
  PassFits p = Ended ItemsFit p.left

  abbrev LeftFits : LeftOf A → Type 0
  LeftFits l = Ended ItemsFit l.1

  abbrev pub Fine : Formed → Type 0
  Fine f = Ended Any f.result

  passes_come : (fs : List ℕ) (ts : List (ℕ × Tree A)) (notes : List (Note L)) (s : S) → Each (NumberedWithin n) ts → Comes (Each LeftFits) (passes ops turns e fs ts notes s)
  passes_come fs [] notes s w = tt
  passes_come fs (t ∷ ts) notes s w =
      let p : Pending A L = one_form t.1 notes in
      let small = w.0 in
      let passed = run_ends loud keeps n large e turns max_uses p (ops.turn t.0 s) (omega arith) (omega (arith, small, enough, many)) (record { todo = (small, tt); aside = tt }) in
      then_comes PassFits (Each LeftFits) (unless_over ops fs (run ops turns e p (ops.turn t.0 s))) (λ q t1. passes ops turns e fs ts q.notes t1 then λ rest. going ((t.0, q.left) ∷ rest))
      (unless_comes PassFits fs (run ops turns e p (ops.turn t.0 s)) passed.1)
      (λ q t1 h. then_comes (Each LeftFits) (Each LeftFits) (passes ops turns e fs ts q.notes t1) (λ rest. going ((t.0, q.left) ∷ rest)) (passes_come fs ts q.notes t1 w.1) (λ rest u k. (h, k)))

  abbrev F : Expander E A S
  F = expand ops turns

  with_fine : (p : Part) (r : Result Parts Broken) → Ended Any r → Ended Any (with_part p r)
  with_fine p (Ok ps) h = tt
  with_fine p (Err b) h = h

  before_come : (more : Work S (Result Parts Broken)) (r : Result Part Broken) (s : S) → Ended Any r → ((t : S) → Comes (Ended Any) (more t)) → Comes (Ended Any) (before_parts more r s)
  before_come more (Err b) s h g = h
  before_come more (Ok p) s h g = then_comes (Ended Any) (Ended Any) (more s) (λ r. going (with_part p r)) (g s) (λ r t k. with_fine p r k)

  one_item : (i : Item A) (s : S) → ItemWithin n i → Ended Any (item_part F ops max_depth e i s).0
  one_item i s w = (item_ends loud keeps n need large enough turns F (expand_ends loud keeps n need large enough turns) max_uses max_depth e i (omega arith, many) w s (omega arith)).1

  items_come : (fs : List ℕ) (is : List (Item A)) (s : S) → ItemsWithin n is → Comes (Ended Any) (items_parts ops fs (item_part F ops max_depth e) is s)
  items_come fs [] s w = tt
  items_come fs (i ∷ is) s w =
      let f : Item A → Step S Part = item_part F ops max_depth e in
      then_comes (Ended Any) (Ended Any) (unless_over ops fs (f i s)) (before_parts (items_parts ops fs f is)) (unless_comes (Ended Any) fs (f i s) (one_item i s w.0))
      (λ r t h. before_come (items_parts ops fs f is) r t h (λ u. items_come fs is u w.1))

  form_comes : (fs : List ℕ) (r : Result (Left A) Broken) (s : S) → Ended ItemsFit r → Comes (Ended Any) (form_parts ops F e fs r s)
  form_comes fs (Err b) s h = h
  form_comes fs (Ok l) s h = items_come fs l.items (meet_all ops e l.uses s) h

  finished_come : (fs : List ℕ) (rs : List (LeftOf A)) (s : S) → Each LeftFits rs → Comes (Each Fine) (finished ops F e fs rs s)
  finished_come fs [] s w = tt
  finished_come fs (r ∷ rs) s w =
      then_comes (Ended Any) (Each Fine) (form_parts ops F e fs r.1 (ops.turn r.0 s)) (λ parts t. finished ops F e fs rs t then λ rest. going (record { form = r.0; result = parts; counted = ops.counted t } ∷ rest))
      (form_comes fs r.1 (ops.turn r.0 s) w.0)
      (λ parts t h. then_comes (Each Fine) (Each Fine) (finished ops F e fs rs t) (λ rest. going (record { form = r.0; result = parts; counted = ops.counted t } ∷ rest)) (finished_come fs rs t w.1) (λ rest u k. (h, k)))

  pub unit_comes : (ts : List (ℕ × Tree A)) (s : S) → Each (NumberedWithin n) ts → Comes (Each Fine) (unit ops turns e ts s)
  unit_comes ts s w =
      let fs : List ℕ = map (λ t. t.0) ts in
      then_comes (Each LeftFits) (Each Fine) (passes ops turns e fs ts [] s) (finished ops F e fs) (passes_come fs ts [] s w) (λ rs t h. finished_come fs rs t h)
