-- Lists that are changed thing by thing.
use Rattle.std.proofs.Common.{◌≡◌, ◌≢◌, ℕ, zero, suc, ◌+◌, ◌<◌, ◌≤◌, List, [], ◌∷◌, ◌++◌, map, take, drop, length, get_or, set, slice_get, Option, Some, refl, sym, ap, ◌∙◌, subst, inl, inr, arith, length-set, append-nil, Vec, ap₂}
use mathlib.Core.HLevel.{is_prop→PathP}
use native.Mathlib.Nat.{ℕ_set}
use Rattle.std.specs.Coded.{le_prop}
use Rattle.std.specs.Prelude.{◌^◌}
use Rattle.std.specs.Vec.{SameBlock}
use Rattle.std.specs.declared.alloc.Global.{Global}
use Rattle.std.specs.Prelude.{unwrap_or}
use Rattle.std.proofs.lemmas.Bool.{cases_eq}
use Rattle.std.proofs.lemmas.List.{get_or-set_same, take_all, drop_all}
use Rattle.std.proofs.lemmas.Option.{slice_get_within, slice_get-get_or, unwrap_or-slice_get, same_Some}
use Rattle.syntax_tree.specs.declared.trees.Work.{Work}
use Rattle.core_tree.specs.Names.{AllMatch}
use Rattle.renumbering_laws.specs.Renumbering.{Renumbering}
use Rattle.moved_numbers.specs.Standing.{StandsOn}
use Rattle.moved_numbers.specs.Values.{each}

module _ {X : Type 0} where
  set_same : (xs : List X) (i : ℕ) (y : X) → i < length xs → slice_get (set xs i y) i ≡ Some y
  set_same xs i y lt = slice_get-get_or (set xs i y) i y (omega (arith, lt, length-set xs i y)) ∙ ap (λ (z : X). Some z) (get_or-set_same xs i y y lt)

  set_other : (xs : List X) (i : ℕ) (y : X) (k : ℕ) → k ≢ i → slice_get (set xs i y) k ≡ slice_get xs k
  set_other [] i y k ne = refl
  set_other (x ∷ xs) zero y zero ne = absurd (ne refl)
  set_other (x ∷ xs) zero y (suc k) ne = refl
  set_other (x ∷ xs) (suc i) y zero ne = refl
  set_other (x ∷ xs) (suc i) y (suc k) ne = set_other xs i y k (λ e. ne (ap suc e))

  module _ (R : X → X → Type 0) where
    -- things below a number are related to those that were there, and from it on they are those
    pub record IsFront (xs ys : List X) (n : ℕ) : Type 0 where
      pub length_is : length ys ≡ length xs
      pub below : (k : ℕ) (x y : X) → k < n → slice_get xs k ≡ Some x → slice_get ys k ≡ Some y → R x y
      pub above : (k : ℕ) → n ≤ k → slice_get ys k ≡ slice_get xs k

    pub front_none : (xs : List X) → IsFront xs xs 0
    front_none xs = record { length_is = refl; below = λ k x y lt at_x at_y. absurd (omega (arith, lt)); above = λ k le. refl }

    pub front_more : (xs ys : List X) (n : ℕ) (x y : X) → IsFront xs ys n → n < length ys → x ≡ get_or ys n x → R x y → IsFront xs (set ys n y) (n + 1)
    front_more xs ys n x y front lt read related = record {
      length_is = length-set ys n y ∙ front.length_is;
      below = λ k a b le at_a at_b.
          elim (cases_eq k n) [
            | inl e ↦
                let here : slice_get xs n ≡ Some x = sym (front.above n (omega arith)) ∙ slice_get-get_or ys n x lt ∙ ap (λ (z : X). Some z) (sym read) in
                let first : x ≡ a = same_Some x a (sym here ∙ ap (slice_get xs) (sym e) ∙ at_a) in
                let second : y ≡ b = same_Some y b (sym (set_same ys n y lt) ∙ ap (slice_get (set ys n y)) (sym e) ∙ at_b) in
                subst (λ (z : X). R z b) first (subst (λ (z : X). R x z) second related)
            | inr ne ↦ front.below k a b (omega (arith, le, ne)) at_a (sym (set_other ys n y k ne) ∙ at_b)
          ];
      above = λ k le. set_other ys n y k (λ e. absurd (omega (arith, e, le))) ∙ front.above k (omega (arith, le));
    }

    -- from the number on nothing was changed
    pub unvisited : (xs ys : List X) (n : ℕ) → IsFront xs ys n → (length ys ≡ length xs) × ((k : ℕ) (d : X) → n ≤ k → get_or ys k d ≡ get_or xs k d)
    unvisited xs ys n front = (front.length_is, λ k d le. sym (unwrap_or-slice_get ys k d) ∙ ap (λ (o : Option X). unwrap_or o d) (front.above k le) ∙ unwrap_or-slice_get xs k d)

    pairs : (xs ys : List X) → length ys ≡ length xs → ((k : ℕ) (x y : X) → slice_get xs k ≡ Some x → slice_get ys k ≡ Some y → R x y) → AllMatch R xs ys
    pairs [] [] len h = tt
    pairs [] (y ∷ ys) len h = absurd (omega (arith, len))
    pairs (x ∷ xs) [] len h = absurd (omega (arith, len))
    pairs (x ∷ xs) (y ∷ ys) len h = (h zero x y refl refl, pairs xs ys (omega (arith, len)) (λ k a b at_a at_b. h (suc k) a b at_a at_b))

    pub front_all : (xs ys : List X) (n : ℕ) → IsFront xs ys n → length ys ≤ n → AllMatch R xs ys
    front_all xs ys n front le =
        pairs xs ys front.length_is (λ k x y at_x at_y. front.below k x y (omega (arith, slice_get_within ys k y at_y, le)) at_x at_y)

-- a list that is changed thing by thing is changed
pub map_over_all : {X : Type 0} (f : X → X) (xs ys : List X) (n : ℕ) → length xs ≤ n → ys ≡ map f (take n xs) ++ drop n xs → ys ≡ map f xs
map_over_all f xs ys n le h = h ∙ ap (λ l. map f l ++ drop n xs) (take_all n xs le) ∙ ap (λ l. map f xs ++ l) (drop_all n xs le) ∙ append-nil (map f xs)

-- a list of things that stand on
pub all_on : {X Y : Type 0} (r : Renumbering) (P : Work → (unit form : ℕ) → X → Y → Type 0) (g : Y → Y) (xs ys : List X) → AllMatch (StandsOn r P g) xs ys →
    StandsOn r (λ work unit form. AllMatch (P work unit form)) (map g) xs ys
all_on r P g [] [] h old new unit form [] moves stands = tt
all_on r P g [] [] h old new unit form (m ∷ ms) moves stands = absurd stands
all_on r P g [] (y ∷ ys) h old new unit form ms moves stands = absurd h
all_on r P g (x ∷ xs) [] h old new unit form ms moves stands = absurd h
all_on r P g (x ∷ xs) (y ∷ ys) h old new unit form [] moves stands = absurd stands
all_on r P g (x ∷ xs) (y ∷ ys) h old new unit form (m ∷ ms) moves stands = (h.0 old new unit form m moves stands.0, all_on r P g xs ys h.1 old new unit form ms moves stands.1)

-- things that are changed one by one
pub each_there : {X Y V W : Type 0} (P : X → Y → Type 0) (Q : V → W → Type 0) (f : X → V) (g : Y → W) → ((x : X) (y : Y) → P x y → Q (f x) (g y)) → (xs : List X) (ys : List Y) → AllMatch P xs ys → AllMatch Q (map f xs) (map g ys)
each_there P Q f g on [] [] h = tt
each_there P Q f g on [] (y ∷ ys) h = absurd h
each_there P Q f g on (x ∷ xs) [] h = absurd h
each_there P Q f g on (x ∷ xs) (y ∷ ys) h = (on x y h.0, each_there P Q f g on xs ys h.1)

-- the same, told of what is equal
pub on_as : {X Y : Type 0} (r : Renumbering) (P : Work → (unit form : ℕ) → X → Y → Type 0) (g : Y → Y) (x x' y y' : X) → x ≡ x' → y' ≡ y → StandsOn r P g x y → StandsOn r P g x' y'
on_as {X} r P g x x' y y' before after h = subst (λ (z : X). StandsOn r P g x' z) (sym after) (subst (λ (z : X). StandsOn r P g z y) before h)

pub none_of_none : {X : Type 0} (xs ys : List X) → length ys ≡ length xs → xs ≡ [] → ys ≡ []
none_of_none xs [] len e = refl
none_of_none {X} xs (y ∷ ys) len e = let none : length xs ≡ 0 = ap (λ (l : List X). length l) e in absurd (omega (arith, len, none))

-- ---- values

-- lists in the same memory with the same items are the same
pub same_vec : {X : Type 0} (v w : Vec X Global) → SameBlock v w → w.items ≡ v.items → w ≡ v
same_vec {X} v w block items =
    let len : w.len ≡ v.len = w.ok.0 ∙ ap (λ (l : List X). length l) items ∙ sym v.ok.0 in
    λ i. record {
      ptr = block.0 i;
      len = len i;
      cap = block.1.0 i;
      alloc = block.1.1 i;
      items = items i;
      ok = is_prop→PathP (λ j. (len j ≡ length (items j)) × (len j ≤ block.1.0 j)) (λ j p q k. (ℕ_set _ _ p.0 q.0 k, le_prop p.1 q.1 k)) w.ok v.ok i;
      small = is_prop→PathP (λ j. block.1.0 j < 2 ^ 63) (λ j p q. le_prop p q) w.small v.small i;
    }

pub each_is : {X : Type 0} (f : X → X) (v w : Vec X Global) → SameBlock v w → w.items ≡ map f v.items → w ≡ each f v
each_is f v w block items = same_vec (each f v) w block items

-- a thing is related to what it was, and is what becomes of that
abbrev pub Becomes : {X : Type 0} → (X → X → Type 0) → (X → X) → X → X → Type 0
Becomes R f x y = R x y × (y ≡ f x)

pub all_related : {X : Type 0} (R : X → X → Type 0) (f : X → X) (xs ys : List X) → AllMatch (Becomes R f) xs ys → AllMatch R xs ys
all_related R f [] [] h = tt
all_related R f [] (y ∷ ys) h = absurd h
all_related R f (x ∷ xs) [] h = absurd h
all_related R f (x ∷ xs) (y ∷ ys) h = (h.0.0, all_related R f xs ys h.1)

pub all_mapped : {X : Type 0} (R : X → X → Type 0) (f : X → X) (xs ys : List X) → AllMatch (Becomes R f) xs ys → ys ≡ map f xs
all_mapped R f [] [] h = refl
all_mapped R f [] (y ∷ ys) h = absurd h
all_mapped R f (x ∷ xs) [] h = absurd h
all_mapped R f (x ∷ xs) (y ∷ ys) h = ap₂ (λ z zs. z ∷ zs) h.0.1 (all_mapped R f xs ys h.1)

-- lists that are equal to those that are told of
pub match_as : {X : Type 0} (R : X → X → Type 0) (xs xs' ys ys' : List X) → xs ≡ xs' → ys' ≡ ys → AllMatch R xs ys → AllMatch R xs' ys'
match_as {X} R xs xs' ys ys' before after h = subst (λ (l : List X). AllMatch R xs' l) (sym after) (subst (λ (l : List X). AllMatch R l ys) before h)
