-- One turn more: the first unit that is open is the one on which the definition of a program works next, also where units are broken.
use Rattle.std.proofs.Common.{◌≡◌, ℕ, zero, suc, Bool, true, false, cond, List, [], ◌∷◌, map, take, slice_get, Option, Some, None, refl, sym, ap, ◌∙◌, arith}
use Rattle.std.specs.Prelude.{◌||◌, ◌&&◌, ◌==◌, not, reverse}
use Rattle.std.proofs.lemmas.Bool.Decides.{nat_tests}
use Rattle.std.proofs.lemmas.List.{reverse-append}
use Rattle.std.proofs.lemmas.Option.{same_Some}
use Rattle.scheme_model.specs.Order.{is_some}
use Rattle.scheme_model.specs.IncludedUnits.{Placed}
use Rattle.scheme_model.specs.Program.{Prepared, prepare, WholeFault, UnitResult, result_at, is_in, fault_before, all_done, is_ready, first_ready}
use Rattle.import_sets.specs.InTurn.{all_in, is_open}
use Rattle.import_sets.proofs.ReachLaws.{in_append, or_none, or_turned}
use Rattle.import_sets.proofs.TurnLaws.{ready_found}
use Rattle.document_units.specs.Turned.{waits_if, waits, waiting}

-- the numbers of results, the latest first
abbrev pub numbers : List UnitResult → List ℕ
numbers rs = map (λ (r : UnitResult). r.unit.number) rs

-- ---- what is done

turned : (m n : ℕ) → (m == n) ≡ (n == m)
turned m n = grind (arith, nat_tests)

result_there : (rs : List UnitResult) (n : ℕ) → is_some (result_at rs n) ≡ is_in n (numbers rs)
result_there [] n = refl
result_there (r ∷ rs) n = go (result_there rs n) (r.unit.number == n) (turned r.unit.number n)
  where
    go : is_some (result_at rs n) ≡ is_in n (numbers rs) → (b : Bool) → b ≡ (n == r.unit.number) → is_some (cond b (Some r) (result_at rs n)) ≡ ((n == r.unit.number) || is_in n (numbers rs))
    go more true e = ap (λ b. b || is_in n (numbers rs)) e
    go more false e = more ∙ ap (λ b. b || is_in n (numbers rs)) e

in_reverse : (n : ℕ) (xs : List ℕ) → is_in n (reverse xs) ≡ is_in n xs
in_reverse n [] = refl
in_reverse n (x ∷ xs) =
    ap (is_in n) (reverse-append (x ∷ []) xs) ∙ in_append n (reverse xs) (x ∷ []) ∙ (λ j. in_reverse n xs j || or_none (n == x) j) ∙ or_turned (is_in n xs) (n == x)

pub done_there : (rs : List UnitResult) (n : ℕ) → is_some (result_at rs n) ≡ is_in n (reverse (numbers rs))
done_there rs n = result_there rs n ∙ sym (in_reverse n (numbers rs))

all_there : (rs : List UnitResult) (ns : List ℕ) → all_done rs ns ≡ all_in (reverse (numbers rs)) ns
all_there rs [] = refl
all_there rs (n ∷ ns) = (λ j. done_there rs n j && all_there rs ns j)

-- a unit is ready where what it waits for is done
pub ready_open : (all : List Placed) (rs : List UnitResult) (p : Prepared) → is_ready all (prepare all 0 all) rs p ≡ is_open (reverse (numbers rs)) (waits all p)
ready_open all rs p = go (fault_before all (prepare all 0 all) p)
  where
    go : (o : Option WholeFault) → (not (is_some (result_at rs p.number)) && (is_some o || all_done rs p.imports)) ≡ is_open (reverse (numbers rs)) (waits_if o p)
    go None = (λ j. not (done_there rs p.number j) && all_there rs p.imports j)
    go (Some f) = (λ j. not (done_there rs p.number j) && true)

-- ---- the first that is ready

pub first_same : (f h : Prepared → Bool) (ps : List Prepared) → ((p : Prepared) → f p ≡ h p) → first_ready f ps ≡ first_ready h ps
first_same f h [] same = refl
first_same f h (p ∷ ps) same = (λ j. cond (same p j) (Some p) (first_same f h ps same j))

-- what is found among what units became was found among the units
first_mapped : (f : Prepared → Bool) (w : Prepared → Prepared) (xs : List Prepared) (q : Prepared) → first_ready f (map w xs) ≡ Some q → (p : Prepared) × ((q ≡ w p) × (first_ready (λ x. f (w x)) xs ≡ Some p))
first_mapped f w [] q h = absurd cc
first_mapped f w (x ∷ xs) q h = go (first_mapped f w xs q) (f (w x)) h
  where
    go : (first_ready f (map w xs) ≡ Some q → (p : Prepared) × ((q ≡ w p) × (first_ready (λ x. f (w x)) xs ≡ Some p))) → (b : Bool) → cond b (Some (w x)) (first_ready f (map w xs)) ≡ Some q →
        (p : Prepared) × ((q ≡ w p) × (cond b (Some x) (first_ready (λ x. f (w x)) xs) ≡ Some p))
    go more true i = (x, (sym (same_Some (w x) q i), refl))
    go more false i = more i

-- what is found among the first is found
first_taken : (f : Prepared → Bool) (k : ℕ) (ps : List Prepared) (p : Prepared) → first_ready f (take k ps) ≡ Some p → first_ready f ps ≡ Some p
first_taken f zero ps p h = absurd cc
first_taken f (suc k) [] p h = absurd cc
first_taken f (suc k) (x ∷ ps) p h = go (first_taken f k ps p) (f x) h
  where
    go : (first_ready f (take k ps) ≡ Some p → first_ready f ps ≡ Some p) → (b : Bool) → cond b (Some x) (first_ready f (take k ps)) ≡ Some p → cond b (Some x) (first_ready f ps) ≡ Some p
    go more true i = i
    go more false i = more i

same_number : (o : Option WholeFault) (p : Prepared) → (waits_if o p).number ≡ p.number
same_number None p = refl
same_number (Some f) p = refl

-- the unit whose turn it is
pub record IsTurn (all : List Placed) (rs : List UnitResult) (n : ℕ) (p : Prepared) : Type 0 where
  pub first : first_ready (is_ready all (prepare all 0 all) rs) (prepare all 0 all) ≡ Some p
  pub place : slice_get (prepare all 0 all) n ≡ Some p
  pub number : p.number ≡ n
  pub ready : is_ready all (prepare all 0 all) rs p ≡ true

pub turn_next : (all : List Placed) → ((n : ℕ) (p : Prepared) → slice_get (prepare all 0 all) n ≡ Some p → p.number ≡ n) → (rs : List UnitResult) (q : Prepared) → first_ready (is_open (reverse (numbers rs))) (waiting all) ≡ Some q →
    (p : Prepared) × IsTurn all rs q.number p
turn_next all numbered rs q h =
    let ps : List Prepared = prepare all 0 all in
    let m = first_mapped (is_open (reverse (numbers rs))) (waits all) (take 128 ps) q h in
    let first : first_ready (is_ready all ps rs) ps ≡ Some m.0 =
    first_same (is_ready all ps rs) (λ p. is_open (reverse (numbers rs)) (waits all p)) ps (ready_open all rs) ∙ first_taken (λ p. is_open (reverse (numbers rs)) (waits all p)) 128 ps m.0 m.1.1 in
    let found = ready_found (is_ready all ps rs) ps m.0 first in
    let same : q.number ≡ m.0.number = ap (λ (p : Prepared). p.number) m.1.0 ∙ same_number (fault_before all ps m.0) m.0 in
    let here : m.0.number ≡ found.1.0 = numbered found.1.0 m.0 found.1.1 in
    (m.0, record { first = first; place = ap (slice_get ps) (same ∙ here) ∙ found.1.1; number = sym same; ready = found.0 })
