-- Items that were expanded elsewhere, one behind another, and work that may end behind each: where the first of them come to the same as
-- there, however many they are, work ends behind the same item, or comes to the same.
use Rattle.std.proofs.Common.{◌≡◌, ℕ, suc, ◌+◌, List, [], ◌∷◌, map, Bool, true, false, cond, Option, Some, None, Result, Ok, Err, refl, sym, ap, ◌∙◌}
use Rattle.std.specs.Prelude.{nat_lt}
use Rattle.scheme_model.specs.Ident.{Ident}
use Rattle.scheme_model.specs.Requirements.{Known}
use Rattle.scheme_model.specs.Cores.{Bound, Parts, no_parts, Part, part}
use Rattle.scheme_model.specs.Steps.{Broken, Step, ◌>>=◌, done}
use Rattle.scheme_model.specs.Order.{Item}
use Rattle.scheme_model.specs.Expression.{parts}
use Rattle.scheme_model.specs.UnitExpansion.{max_total, Work, ◌then◌, going, nodes_in, unless_over, with_part, before_parts, items_parts}
use Rattle.scheme_model.specs.ScopedExpansion.{ScopedState}
use Rattle.scheme_model.specs.CountedExpansion.{counted}
use Rattle.scheme_model.specs.Questions.{Moment, Around, Asking}
use Rattle.scheme_model.specs.FormsAlike.{item_with, part_with, parts_with, or_fault, again, bare_state, Leaves}
use Rattle.model_laws.proofs.UnitEnds.{Both, both_end, both_go, both_at, both_then}
use Rattle.form_laws.proofs.Answering.{first_of}
use Rattle.kept_forms.specs.KeptForms.{KeptItem, item_moved, put_items}
use Rattle.kept_forms.specs.Carried.{unless_broken, kept_items}
use Rattle.kept_forms.proofs.Bares.{bare_around, again_too}

-- ---- the same but for times

abbrev pub EndedLike : ScopedState → ScopedState → Type 0
EndedLike t s = bare_state t ≡ bare_state s

abbrev pub GivesLike : {X : Type 0} → ScopedState → ScopedState → X → X → Type 0
GivesLike t s x y = (bare_state t ≡ bare_state s) × (y ≡ x)

nodes_bare : (known : Known) (fs : List ℕ) (s : ScopedState) → nodes_in (counted known) fs (bare_state s) ≡ nodes_in (counted known) fs s
nodes_bare known [] s = refl
nodes_bare known (f ∷ fs) s = ap (λ m. s.nodes f + m) (nodes_bare known fs s)

pub nodes_like : (known : Known) (fs : List ℕ) (s t : ScopedState) → bare_state t ≡ bare_state s → nodes_in (counted known) fs t ≡ nodes_in (counted known) fs s
nodes_like known fs s t e = sym (nodes_bare known fs t) ∙ ap (nodes_in (counted known) fs) e ∙ nodes_bare known fs s

value_or : {X : Type 0} → X → Option X → X
value_or x None = x
value_or x (Some y) = y

-- two that are each like a third
pub across : {X : Type 0} {q p m : Option X × ScopedState} → Both EndedLike GivesLike q m → Both EndedLike GivesLike p m → Both EndedLike GivesLike q p
unfolding value_or
across (both_end t s e d h) (both_end u r a b k) = both_end t u e a (h ∙ ap (λ z. bare_state z.1) (sym d ∙ b) ∙ sym k)
across {X} (both_end t s e d h) (both_go x y u r a b k) = let q : None ≡ Some y = ap (λ (z : Option X × ScopedState). z.0) (sym d ∙ b) in absurd cc
across {X} (both_go x y t s e d h) (both_end u r a b k) = let q : Some y ≡ None = ap (λ (z : Option X × ScopedState). z.0) (sym d ∙ b) in absurd cc
across {X} (both_go x y t s e d h) (both_go v z u r a b k) =
    both_go x v t u e a (h.0 ∙ ap (λ (z : Option X × ScopedState). bare_state z.1) (sym d ∙ b) ∙ sym k.0, sym k.1 ∙ sym (ap (λ (z : Option X × ScopedState). value_or y z.0) (sym d ∙ b)) ∙ h.1)

-- ---- parts

abbrev part_in : Part → Result Parts Broken → Part
part_in d (Ok no_parts) = d
part_in d (Ok (part p ps)) = p
part_in d (Err e) = d

abbrev rest_in : Result Parts Broken → Parts
rest_in (Ok no_parts) = no_parts
rest_in (Ok (part p ps)) = ps
rest_in (Err e) = no_parts

abbrev fault_in : {X : Type 0} → Broken → Result X Broken → Broken
fault_in d (Ok x) = d
fault_in d (Err e) = e

abbrev value_in : Part → Result Part Broken → Part
value_in d (Ok p) = p
value_in d (Err e) = d

module _ (f : Bound → Bound) (v : Around) where
  -- what the first items came to there is what they come to here
  abbrev pub FrontLike : Result Parts Broken × Asking → Result Parts Broken × ScopedState → Type 0
  FrontLike a c = (c.0 ≡ or_fault (parts_with f) a.0) × Leaves v a.1.moment c.1

  tail_like : (p q : Part) (x : Result Parts Broken × Asking) (y : Result Parts Broken × ScopedState) → FrontLike (x >>= λ ps. done (part p ps)) (y >>= λ ps. done (part q ps)) → FrontLike x y
  tail_like p q (Ok ps, a) (Ok qs, c) h = (ap (λ z. Ok (rest_in z)) h.0, h.1)
  tail_like p q (Ok ps, a) (Err d, c) h = let z : Err d ≡ Ok (part (part_with f p) (parts_with f ps)) = h.0 in absurd cc
  tail_like p q (Err e, a) (Ok qs, c) h = let z : Ok (part q qs) ≡ Err e = h.0 in absurd cc
  tail_like p q (Err e, a) (Err d, c) h = h

  abbrev ItemLike : Result Part Broken × Asking → Result Part Broken × ScopedState → Type 0
  ItemLike a c = (c.0 ≡ or_fault (part_with f) a.0) × Leaves v a.1.moment c.1

  head_like : (x : Result Part Broken × Asking) (y : Result Part Broken × ScopedState) → FrontLike (x >>= λ p. done (part p no_parts)) (y >>= λ p. done (part p no_parts)) → ItemLike x y
  head_like (Ok p, a) (Ok q, c) h = (ap (λ z. Ok (part_in q z)) h.0, h.1)
  head_like (Ok p, a) (Err d, c) h = let z : Err d ≡ Ok (part (part_with f p) no_parts) = h.0 in absurd cc
  head_like (Err e, a) (Ok q, c) h = let z : Ok (part q no_parts) ≡ Err e = h.0 in absurd cc
  head_like (Err e, a) (Err d, c) h = (ap (λ z. Err (fault_in d z)) h.0, h.1)

  -- ---- item by item

  module _ (w : Around) (same : bare_around v ≡ bare_around w) (fs : List ℕ) (fa : Item Ident → Step Asking Part) (fc : Item Ident → Step ScopedState Part) where
    abbrev pub Fronts : List (Item Ident) → Asking → ScopedState → Type 0
    Fronts is s t = (n : ℕ) → FrontLike (parts fa (first_of n is) s) (parts fc (map (item_with f) (first_of n is)) t)

    abbrev here : List (Item Ident) → Work ScopedState (Result Parts Broken)
    here is t = items_parts (counted v.known) fs fc (map (item_with f) is) t

    abbrev there : List KeptItem → Work ScopedState (Result Parts Broken)
    there ks t = put_items w fs (map (item_moved f) ks) t

    abbrev ItemsGo : List (Item Ident) → Type 0
    ItemsGo is = (s : Asking) (t t2 : ScopedState) → Fronts is s t → bare_state t ≡ bare_state t2 → Both EndedLike GivesLike (here is t) (there (kept_items fa is s) t2)

    -- work ends behind the same item
    over_like : (y : Result Part Broken × ScopedState) (r : Result Part Broken) (m : Moment) → bare_state y.1 ≡ bare_state (again w m) → (more more2 : Work ScopedState (Result Parts Broken))
        → Both EndedLike GivesLike (before_parts more y.0 y.1) (before_parts more2 r (again w m))
        → Both EndedLike GivesLike (unless_over (counted v.known) fs y then before_parts more) (unless_over (counted w.known) fs (r, again w m) then before_parts more2)
    over_like y r m e more more2 law =
        both_at refl (ap (λ n. cond {A = Option (Result Part Broken) × ScopedState} (nat_lt max_total n) (None, again w m) (Some r, again w m) then before_parts more2) (nodes_like w.known fs y.1 (again w m) (sym e)))
        (go (nat_lt max_total (nodes_in (counted v.known) fs y.1)))
      where
        go : (b : Bool) → Both EndedLike GivesLike (cond {A = Option (Result Part Broken) × ScopedState} b (None, y.1) (Some y.0, y.1) then before_parts more) (cond {A = Option (Result Part Broken) × ScopedState} b (None, again w m) (Some r, again w m) then before_parts more2)
        go true = both_end y.1 (again w m) refl refl e
        go false = law

    abbrev Next : List (Item Ident) → Result Part Broken × Asking → Result Part Broken × ScopedState → Type 0
    Next is x y = (n : ℕ) → FrontLike (x >>= λ p. λ t. parts fa (first_of n is) t >>= λ ps. done (part p ps)) (y >>= λ p. λ t. parts fc (map (item_with f) (first_of n is)) t >>= λ ps. done (part p ps))

    before_like : (is : List (Item Ident)) → ItemsGo is → (x : Result Part Broken × Asking) (y : Result Part Broken × ScopedState) → Next is x y → ItemLike x y → bare_state y.1 ≡ bare_state (again w x.1.moment)
        → Both EndedLike GivesLike (before_parts (here is) y.0 y.1) (before_parts (there (unless_broken x.0 (kept_items fa is x.1))) (or_fault (part_with f) x.0) (again w x.1.moment))
    before_like is law (Ok p, a) (Ok q, c) h one e =
        let d : part_with f p ≡ q = ap (value_in q) (sym one.0) in
        both_then (λ r. going (with_part q r)) (λ r. going (with_part (part_with f p) r)) (law a c (again w a.moment) (λ n. tail_like p q (parts fa (first_of n is) a) (parts fc (map (item_with f) (first_of n is)) c) (h n)) e)
        (λ r z t s k. both_go (with_part q r) (with_part (part_with f p) z) t s refl refl (k.0, (let g = k.1 in λ j. with_part (d j) (g j))))
    before_like is law (Ok p, a) (Err d, c) h one e = let z : Err d ≡ Ok (part_with f p) = one.0 in absurd cc
    before_like is law (Err b, a) (Ok q, c) h one e = let z : Ok q ≡ Err b = one.0 in absurd cc
    before_like is law (Err b, a) (Err d, c) h one e = both_go (Err d) (Err b) c (again w a.moment) refl refl (e, ap (λ z. Err (fault_in d z)) (sym one.0))

    next_like : (is : List (Item Ident)) → ItemsGo is → (x : Result Part Broken × Asking) (y : Result Part Broken × ScopedState) → Next is x y
        → Both EndedLike GivesLike (unless_over (counted v.known) fs y then before_parts (here is))
        (unless_over (counted w.known) fs (or_fault (part_with f) x.0, again w x.1.moment) then before_parts (there (unless_broken x.0 (kept_items fa is x.1))))
    next_like is law x y h =
        let one = head_like x y (h 0) in
        let e = one.1 ∙ again_too w v same x.1.moment in
        over_like y (or_fault (part_with f) x.0) x.1.moment e (here is) (there (unless_broken x.0 (kept_items fa is x.1))) (before_like is law x y h one e)

    pub items_like : (is : List (Item Ident)) → ItemsGo is
    items_like [] s t t2 h e = both_go (Ok no_parts) (Ok no_parts) t t2 refl refl (e, refl)
    items_like (i ∷ is) s t t2 h e = next_like is (items_like is) (fa i s) (fc (item_with f i) t) (λ n. h (suc n))
