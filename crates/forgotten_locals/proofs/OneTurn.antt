-- One turn of a form in surroundings without what is local: it may be kept there where it may be kept with it, and comes to the same.
use Rattle.std.proofs.Common.{◌≡◌, ◌↔◌, ℕ, List, [], ◌∷◌, ◌+◌, Option, Some, None, Result, Ok, Err, refl, sym, ap, ◌∙◌}
use Rattle.scheme_model.specs.Ident.{Ident}
use Rattle.scheme_model.specs.Trees.{Tree}
use Rattle.scheme_model.specs.Cores.{Part, no_parts}
use Rattle.scheme_model.specs.Steps.{Broken}
use Rattle.scheme_model.specs.Order.{Left}
use Rattle.scheme_model.specs.Substitution.{definition_count}
use Rattle.scheme_model.specs.Requirements.{Known}
use Rattle.scheme_model.specs.UnitExpansion.{going, nodes_in, with_part, before_parts}
use Rattle.scheme_model.specs.ScopedExpansion.{ScopedState}
use Rattle.scheme_model.specs.CountedExpansion.{counted}
use Rattle.scheme_model.specs.Questions.{Moment, Around, SameAnswer}
use Rattle.scheme_model.specs.FormsAlike.{bound_moved, set_aside, start, set_aside_asking, questions_of_pass, questions_of_left, again, bare_state}
use Rattle.model_laws.proofs.UnitEnds.{Both, both_end, both_go, both_then, both_over}
use Rattle.form_laws.specs.Begins.{Each, Begins, FormBegins, RestBegins}
use Rattle.form_laws.proofs.FormLaws.{set_itself, set_law}
use Rattle.kept_forms.specs.KeptForms.{KeptForm, KeptItem, KeptParts, goes_through, put_items, comes_to}
use Rattle.kept_forms.specs.Carried.{kept_parts, PassKept, RestKept, no_counts}
use Rattle.kept_forms.proofs.Bares.{bare_around, answers_too, answers_itself}
use Rattle.kept_forms.proofs.Fronts.{EndedLike, GivesLike, nodes_like}
use Rattle.kept_forms.proofs.MayBeKept.{rest_itself}
use Rattle.kept_forms.proofs.Numbers.{LeftIs}
use Rattle.kept_forms.proofs.OneForm.{moved_none, rest_still, PassLike, pass_like, BegunAt, rest_like}
use Rattle.forgotten_locals.specs.Outside.{outside, around_outside, forgotten}
use Rattle.forgotten_locals.proofs.Outsides.{answers_outside, answers_inside, form_outside, rest_outside, same_outside, no_locals, outside_alike, outside_twice, again_outside}
use Rattle.forgotten_locals.proofs.Asks.{pass_asks, left_asks_outside}

-- ---- questions

module _ (w v : Around) (turns : ℕ) (h : Begins w.state) (k : Begins v.state) where
  pub pass_answers : (t : Tree Ident) → Each (SameAnswer w (around_outside v)) (questions_of_pass w turns t) ↔ Each (SameAnswer w v) (questions_of_pass w turns t)
  pass_answers t =
      let qs = questions_of_pass w turns t in let a = pass_asks w (no_locals w h) turns t in
      (answers_inside v (no_locals v k) w qs a, answers_outside v (no_locals v k) w qs a)

  pub left_answers : (r : Result (Left Ident) Broken) → Each (SameAnswer w (around_outside v)) (questions_of_left w turns r) ↔ Each (SameAnswer w v) (questions_of_left w turns r)
  left_answers r =
      let qs = questions_of_left w turns r in let a = left_asks_outside w (no_locals w h) turns r in
      (answers_inside v (no_locals v k) w qs a, answers_outside v (no_locals v k) w qs a)

-- ---- what may be kept

module _ (v : Around) (turns : ℕ) (k : Begins v.state) where
  pass_in : (t : Tree Ident) (o : Option KeptForm) → PassKept (around_outside v) turns t o → PassKept v turns t o
  pass_in t None h = tt
  pass_in t (Some c) (w, h, e) = (w, record { unit = h.unit; form = h.form; new = h.new; begun = h.begun; answers = (pass_answers w v turns h.begun.state k t).0 h.answers }, e)

  pass_out : (t : Tree Ident) (o : Option KeptForm) → PassKept v turns t o → PassKept (around_outside v) turns t o
  pass_out t None h = tt
  pass_out t (Some c) (w, h, e) = (w, record { unit = h.unit; form = h.form; new = h.new; begun = h.begun; answers = (pass_answers w v turns h.begun.state k t).1 h.answers }, e)

  pub pass_kept : (t : Tree Ident) (o : Option KeptForm) → PassKept (around_outside v) turns t o ↔ PassKept v turns t o
  pass_kept t o = (pass_in t o, pass_out t o)

  rest_in : (o : Option KeptParts) → RestKept (around_outside v) turns o → RestKept v turns o
  rest_in None h = tt
  rest_in (Some c) (w, l, a, b, h, e) = (w, l, a, b, record { unit = h.unit; form = h.form; begun = h.begun; answers = (left_answers w v turns h.begun.state k (Ok l)).0 h.answers }, e)

  rest_out : (o : Option KeptParts) → RestKept v turns o → RestKept (around_outside v) turns o
  rest_out None h = tt
  rest_out (Some c) (w, l, a, b, h, e) = (w, l, a, b, record { unit = h.unit; form = h.form; begun = h.begun; answers = (left_answers w v turns h.begun.state k (Ok l)).1 h.answers }, e)

  pub rest_kept_too : (o : Option KeptParts) → RestKept (around_outside v) turns o ↔ RestKept v turns o
  rest_kept_too o = (rest_in o, rest_out o)

-- in surroundings that differ in times
module _ (w v : Around) (same : bare_around v ≡ bare_around w) (turns : ℕ) where
  pub pass_kept_bare : (t : Tree Ident) (o : Option KeptForm) → PassKept w turns t o → PassKept v turns t o
  pass_kept_bare t None h = tt
  pass_kept_bare t (Some c) (old, h, e) = (old, record { unit = ap (λ (z : Around). z.state.unit) same ∙ h.unit; form = ap (λ (z : Around). z.state.form) same ∙ h.form; new = h.new; begun = h.begun; answers = answers_too w v same old (questions_of_pass old turns t) h.answers }, e)

  pub rest_kept_bare : (o : Option KeptParts) → RestKept w turns o → RestKept v turns o
  rest_kept_bare None h = tt
  rest_kept_bare (Some c) (old, l, a, b, h, e) = (old, l, a, b, record { unit = ap (λ (z : Around). z.state.unit) same ∙ h.unit; form = ap (λ (z : Around). z.state.form) same ∙ h.form; begun = h.begun; answers = answers_too w v same old (questions_of_left old turns (Ok l)) h.answers }, e)

-- ---- the first turn

module _ (v w : Around) (same : bare_around v ≡ bare_around (around_outside w)) (turns : ℕ) where
  abbrev u : Around
  u = around_outside w

  pub first_outside : (t : Tree Ident) (o : Option KeptForm) → start v.state ≡ no_counts → FormBegins w t → PassKept v turns t o → PassLike (forgotten (set_aside w turns t)) (forgotten (goes_through v turns t o))
  first_outside t o new h k =
      let qs = questions_of_pass w turns t in let p = set_aside_asking w turns t in
      let there = form_outside w t h in
      let a = pass_like v u (sym same) turns t o new there k in
      let x = set_law w u (same_outside w) turns t h there ((pass_answers w w turns h.state h.state t).1 (answers_itself w w refl qs)) in
      let y = set_itself w turns t h in
      let c = definition_count w.state.table w.state.unit in
      let here = (set_aside w turns t).1 in let beside = (set_aside u turns t).1 in let q = (goes_through v turns t o).1 in
      record {
        left = y.rest ∙ sym (rest_still (bound_moved c c) (moved_none c) p.0.left) ∙ sym x.rest ∙ a.left;
        notes = y.notes ∙ sym x.notes ∙ a.notes;
        state = outside_alike here (again w p.1.moment) y.state ∙ ap bare_state (sym (again_outside w p.1.moment)) ∙ outside_alike (again u p.1.moment) beside (sym x.state) ∙ outside_alike beside q a.state;
      }

-- ---- the second turn

-- outside both are the same, but for times
abbrev pub EndedOutside : ScopedState → ScopedState → Type 0
EndedOutside t s = bare_state (outside t) ≡ bare_state (outside s)

abbrev pub GivesOutside : {X : Type 0} → ScopedState → ScopedState → X → X → Type 0
GivesOutside t s x y = EndedOutside t s × (y ≡ x)

nodes_outside : (known : Known) (fs : List ℕ) (s : ScopedState) → nodes_in (counted known) fs (outside s) ≡ nodes_in (counted known) fs s
nodes_outside known [] s = refl
nodes_outside known (f ∷ fs) s = ap (λ m. s.nodes f + m) (nodes_outside known fs s)

nodes_same : (known : Known) (fs : List ℕ) (s t : ScopedState) → EndedOutside t s → nodes_in (counted known) fs s ≡ nodes_in (counted known) fs t
nodes_same known fs s t e = sym (nodes_outside known fs s) ∙ nodes_like known fs (outside t) (outside s) (sym e) ∙ nodes_outside known fs t

-- one side after another, by equations
record SameOutside {X : Type 0} (q m : Option X × ScopedState) : Type 0 where
  result : m.0 ≡ q.0
  state : EndedOutside q.1 m.1

like_same : {X : Type 0} {q m : Option X × ScopedState} → Both EndedLike GivesLike q m → SameOutside q m
like_same (both_end t s e d h) = record { result = ap (λ z. z.0) d ∙ sym (ap (λ z. z.0) e); state = ap (λ z. bare_state (outside z.1)) e ∙ outside_alike t s h ∙ sym (ap (λ z. bare_state (outside z.1)) d) }
like_same (both_go x y t s e d h) =
    record { result = ap (λ z. z.0) d ∙ ap Some h.1 ∙ sym (ap (λ z. z.0) e); state = ap (λ z. bare_state (outside z.1)) e ∙ outside_alike t s h.0 ∙ sym (ap (λ z. bare_state (outside z.1)) d) }

outside_same : {X : Type 0} {q m : Option X × ScopedState} → Both EndedOutside GivesOutside q m → SameOutside q m
outside_same (both_end t s e d h) = record { result = ap (λ z. z.0) d ∙ sym (ap (λ z. z.0) e); state = ap (λ z. bare_state (outside z.1)) e ∙ h ∙ sym (ap (λ z. bare_state (outside z.1)) d) }
outside_same (both_go x y t s e d h) =
    record { result = ap (λ z. z.0) d ∙ ap Some h.1 ∙ sym (ap (λ z. z.0) e); state = ap (λ z. bare_state (outside z.1)) e ∙ h.0 ∙ sym (ap (λ z. bare_state (outside z.1)) d) }

same_then : {X : Type 0} {q m p : Option X × ScopedState} → SameOutside q m → SameOutside m p → SameOutside q p
same_then a b = record { result = b.result ∙ a.result; state = a.state ∙ b.state }

same_back : {X : Type 0} {q m : Option X × ScopedState} → SameOutside q m → SameOutside m q
same_back a = record { result = sym a.result; state = sym a.state }

abbrev value_or : {X : Type 0} → X → Option X → X
value_or x None = x
value_or x (Some y) = y

-- the second side is forgotten
same_forgotten : {X : Type 0} (q m : Option X × ScopedState) → SameOutside q m → Both (λ t s. bare_state (outside t) ≡ bare_state s) (λ t s x y. (bare_state (outside t) ≡ bare_state s) × (y ≡ x)) q (forgotten m)
same_forgotten (None, t) (None, s) h = both_end t (outside s) refl refl h.state
same_forgotten {X} (None, t) (Some y, s) h = let z : Some y ≡ None = h.result in absurd cc
same_forgotten {X} (Some x, t) (None, s) h = let z : None ≡ Some x = h.result in absurd cc
same_forgotten (Some x, t) (Some y, s) h = both_go x y t (outside s) refl refl (h.state, ap (value_or x) h.result)

abbrev part_in : Part → Result Part Broken → Part
part_in d (Ok p) = p
part_in d (Err e) = d

abbrev fault_in : Broken → Result Part Broken → Broken
fault_in d (Ok p) = d
fault_in d (Err e) = e

module _ (w : Around) (fs : List ℕ) where
  abbrev there : Around
  there = around_outside w

  again_same : (n : Moment) → EndedOutside (again w n) (again there n)
  again_same n = ap bare_state (sym (again_outside w n))

  put_outside : (ks : List KeptItem) (s t : ScopedState) → EndedOutside t s → Both EndedOutside GivesOutside (put_items w fs ks t) (put_items there fs ks s)
  put_outside [] s t e = both_go (Ok no_parts) (Ok no_parts) t s refl refl (e, refl)
  put_outside (k ∷ ks) s t e =
      let a = again w k.moment in let b = again there k.moment in
      both_then (before_parts (put_items w fs ks)) (before_parts (put_items there fs ks))
      (both_over (counted w.known) (counted w.known) fs (k.part, a) (k.part, b) (nodes_same w.known fs b a (again_same k.moment)) (again_same k.moment) (again_same k.moment, refl))
      (λ x y c d g. next (λ s t. put_outside ks s t) x y c d g)
    where
      next : ((s t : ScopedState) → EndedOutside t s → Both EndedOutside GivesOutside (put_items w fs ks t) (put_items there fs ks s)) → (x y : Result Part Broken) (t s : ScopedState) → GivesOutside t s x y
          → Both EndedOutside GivesOutside (before_parts (put_items w fs ks) x t) (before_parts (put_items there fs ks) y s)
      next law (Ok p) (Ok q) t s g =
          let d : q ≡ p = ap (part_in p) g.1 in
          both_then (λ r. going (with_part p r)) (λ r. going (with_part q r)) (law s t g.0) (λ r z a b h. both_go (with_part p r) (with_part q z) a b refl refl (h.0, (let i = h.1 in λ j. with_part (d j) (i j))))
      next law (Ok p) (Err x) t s g = let z : Err x ≡ Ok p = g.1 in absurd cc
      next law (Err x) (Ok q) t s g = let z : Ok q ≡ Err x = g.1 in absurd cc
      next law (Err x) (Err y) t s g = both_go (Err x) (Err y) t s refl refl (g.0, ap (λ z. Err (fault_in x z)) g.1)

  -- expanded anew
  module _ (turns : ℕ) where
    anew_outside : (r : Result (Left Ident) Broken) → RestBegins w r → SameOutside (comes_to w turns fs r None) (comes_to there turns fs r None)
    anew_outside (Err e) h = record { result = refl; state = ap bare_state (sym (outside_twice w.state)) }
    anew_outside (Ok m) h =
        let k = kept_parts w turns 0 m in
        let one = rest_itself w turns 0 m h in
        let here = rest_like w w refl turns fs (Ok m) (Some k) refl refl h one in
        let beside = rest_like there there refl turns fs (Ok m) (Some k) refl refl (rest_outside w (Ok m) h) ((rest_kept_too w turns h.state (Some k)).1 one) in
        same_then (like_same here) (same_then (outside_same (put_outside k.items (again there k.met) (again w k.met) (again_same k.met))) (same_back (like_same beside)))

pub second_outside : (v w : Around) → bare_around v ≡ bare_around (around_outside w) → (turns : ℕ) (fs : List ℕ) (r : Result (Left Ident) Broken) (o : Option KeptParts) → LeftIs r o → BegunAt (start v.state) o → RestBegins w r → RestKept v turns o
    → Both (λ t s. bare_state (outside t) ≡ bare_state s) (λ t s x y. (bare_state (outside t) ≡ bare_state s) × (y ≡ x)) (comes_to w turns fs r None) (forgotten (comes_to v turns fs r o))
second_outside v w same turns fs r o d n h k =
    same_forgotten (comes_to w turns fs r None) (comes_to v turns fs r o)
    (same_then (anew_outside w fs turns r h) (like_same (rest_like v (around_outside w) (sym same) turns fs r o d n (rest_outside w r h) k)))
