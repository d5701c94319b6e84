-- What the program has of each unit, where they come in turns.
use Rattle.std.proofs.Common.{◌≡◌, ℕ, zero, suc, ◌+◌, ◌<◌, ◌≤◌, Bool, true, false, cond, ◌⊎◌, inl, inr, List, [], ◌∷◌, ◌++◌, length, map, take, drop, slice_get, Option, Some, None, refl, sym, ap, ◌∙◌, arith}
use Rattle.std.specs.Prelude.{◌-◌, ◌==◌, reverse}
use Rattle.std.proofs.lemmas.Bool.{eq-eqb, cases_lt}
use Rattle.std.proofs.lemmas.Bool.Decides.{nat_tests}
use Rattle.std.proofs.lemmas.Option.{same_Some, slice_get_within, slice_get-map}
use Rattle.std.specs.Option.{option_map}
use Rattle.scheme_model.specs.Order.{is_some}
use Rattle.scheme_model.specs.Requirements.{Known}
use Rattle.scheme_model.specs.IncludedUnits.{Placed}
use Rattle.scheme_model.specs.Program.{Prepared, prepare, UnitResult, TooMany, broken_result, result_at, in_order, is_in}
use Rattle.scheme_model.specs.ScopedProgram.{ScopedProgress, scoped_work, scoped_before}
use Rattle.document_units.specs.Turned.{turns, waiting, scoped_at, left_out}
use Rattle.program_expansion.proofs.TurnSteps.{done_there}
use Rattle.document_units.proofs.TurnGraph.{at_numbers, taken_has, waiting_length, each_turn}
use Rattle.program_expansion.proofs.TurnedLaws.{one_before, stands, many, scoped_by_turns, scoped_done}

-- ---- a result among those before and after it

-- results of other units are passed over
passed_over : (xs rs : List UnitResult) (n : ℕ) → ((i : ℕ) (r : UnitResult) → slice_get xs i ≡ Some r → (r.unit.number == n) ≡ false) → result_at (reverse xs ++ rs) n ≡ result_at rs n
passed_over [] rs n others = refl
passed_over (x ∷ xs) rs n others =
    ap (λ (l : List UnitResult). result_at l n) (sym (one_before x xs rs)) ∙ passed_over xs (x ∷ rs) n (λ i r at. others (suc i) r at)
    ∙ ap (λ (b : Bool). cond b (Some x) (result_at rs n)) (others 0 x refl)

-- one of the results of units with rising numbers is found
is_found : (xs rs : List UnitResult) (k i : ℕ) (r : UnitResult) → ((i : ℕ) (r : UnitResult) → slice_get xs i ≡ Some r → r.unit.number ≡ k + i) → slice_get xs i ≡ Some r → result_at (reverse xs ++ rs) (k + i) ≡ Some r
is_found [] rs k i r rise at = absurd cc
is_found (x ∷ xs) rs k zero r rise at =
    ap (λ (l : List UnitResult). result_at l (k + 0)) (sym (one_before x xs rs)) ∙ passed_over xs (x ∷ rs) (k + 0) (λ i q there. apart q.unit.number i (rise (suc i) q there))
    ∙ ap (λ (b : Bool). cond b (Some x) (result_at rs (k + 0))) (eq-eqb x.unit.number (k + 0) (rise 0 x refl)) ∙ at
  where
    apart : (n i : ℕ) → n ≡ k + suc i → (n == k + 0) ≡ false
    apart n i e = grind (arith, nat_tests)
is_found (x ∷ xs) rs k (suc i) r rise at =
    ap (λ (l : List UnitResult). result_at l (k + suc i)) (sym (one_before x xs rs)) ∙ ap (result_at (reverse xs ++ x ∷ rs)) (sym (one_more k i))
    ∙ is_found xs (x ∷ rs) (suc k) i r (λ j q there. rise (suc j) q there ∙ sym (one_more k j)) at
  where
    one_more : (k i : ℕ) → suc k + i ≡ k + suc i
    one_more k i = omega arith

-- ---- results in order

abbrev AreDone : List UnitResult → (n k : ℕ) → Type 0
AreDone rs n k = (i : ℕ) → i < k → is_some (result_at rs (n + i)) ≡ true

-- a result more
in_order_more : (rs : List UnitResult) (n k : ℕ) (r : UnitResult) → result_at rs n ≡ Some r → in_order rs n (suc k) ≡ r ∷ in_order rs (suc n) k
in_order_more rs n k r e = rw e refl

none_more : (n : ℕ) → n ≡ n + 0
none_more n = omega arith

one_more : (k i : ℕ) → suc k + i ≡ k + suc i
one_more k i = omega arith

there_is : (o : Option UnitResult) → is_some o ≡ true → (r : UnitResult) × (o ≡ Some r)
there_is None h = absurd cc
there_is (Some r) h = (r, refl)

first_done : (rs : List UnitResult) (n k : ℕ) → AreDone rs n (suc k) → (r : UnitResult) × (result_at rs n ≡ Some r)
first_done rs n k h = there_is (result_at rs n) (ap (λ m. is_some (result_at rs m)) (none_more n) ∙ h 0 (omega arith))

others_done : (rs : List UnitResult) (n k : ℕ) → AreDone rs n (suc k) → AreDone rs (suc n) k
others_done rs n k h = λ i lt. ap (λ m. is_some (result_at rs m)) (one_more n i) ∙ h (suc i) (omega arith)

pub count_in_order : (rs : List UnitResult) (n k : ℕ) → AreDone rs n k → length (in_order rs n k) ≡ k
count_in_order rs n zero h = refl
count_in_order rs n (suc k) h = let r = first_done rs n k h in ap (λ (l : List UnitResult). length l) (in_order_more rs n k r.0 r.1) ∙ ap suc (count_in_order rs (suc n) k (others_done rs n k h))

pub at_in_order : (rs : List UnitResult) (n k : ℕ) → AreDone rs n k → (i : ℕ) → i < k → slice_get (in_order rs n k) i ≡ result_at rs (n + i)
at_in_order rs n zero h i lt = absurd (omega arith)
at_in_order rs n (suc k) h zero lt = let r = first_done rs n k h in ap (λ (l : List UnitResult). slice_get l 0) (in_order_more rs n k r.0 r.1) ∙ sym r.1 ∙ ap (result_at rs) (none_more n)
at_in_order rs n (suc k) h (suc i) lt =
    let r = first_done rs n k h in
    ap (λ (l : List UnitResult). slice_get l (suc i)) (in_order_more rs n k r.0 r.1) ∙ at_in_order rs (suc n) k (others_done rs n k h) i (omega arith) ∙ ap (result_at rs) (one_more n i)

-- ---- each unit's result

mapped_some : {A B : Type 0} (v : A → B) (xs : List A) (i : ℕ) (y : B) → slice_get (map v xs) i ≡ Some y → (x : A) × ((slice_get xs i ≡ Some x) × (v x ≡ y))
mapped_some v [] i y h = absurd cc
mapped_some v (x ∷ xs) zero y h = (x, (refl, same_Some (v x) y h))
mapped_some v (x ∷ xs) (suc i) y h = mapped_some v xs i y h

left_rise : (all : List Placed) (i : ℕ) (r : UnitResult) → slice_get (left_out (prepare all 0 all)) i ≡ Some r → r.unit.number ≡ length (take 128 (prepare all 0 all)) + i
left_rise all i r h =
    let ps : List Prepared = prepare all 0 all in
    let m = mapped_some (λ (p : Prepared). broken_result p TooMany) (drop 128 ps) i r h in
    ap (λ (r : UnitResult). r.unit.number) (sym m.1.1) ∙ at_numbers all (length (take 128 ps) + i) m.0 (stands 128 ps i ∙ m.1.0)

left_many : (all : List Placed) (i : ℕ) (r : UnitResult) → slice_get (left_out (prepare all 0 all)) i ≡ Some r → 128 ≤ r.unit.number
left_many all i r h =
    let ps : List Prepared = prepare all 0 all in
    let m = mapped_some (λ (p : Prepared). broken_result p TooMany) (drop 128 ps) i r h in
    let lt = slice_get_within ps (length (take 128 ps) + i) m.0 (stands 128 ps i ∙ m.1.0) in
    let le = many 128 ps (length (take 128 ps) + i) (omega arith) lt in
    let e = left_rise all i r h in omega arith

few_taken : {A : Type 0} (n : ℕ) (xs : List A) → length (take n xs) ≤ n
few_taken zero xs = omega arith
few_taken (suc n) [] = omega arith
few_taken (suc n) (x ∷ xs) = let le = few_taken n xs in omega arith

-- of a unit that isn't one too many it is the one that it came to in its turn
pub scoped_result : (all : List Placed) (known : Known) (n : ℕ) → n < 128 →
    result_at (scoped_work all (prepare all 0 all) known (length (prepare all 0 all)) scoped_before).results n ≡ result_at (scoped_at all known (turns all)).results n
scoped_result all known n low =
    ap (λ (g : ScopedProgress). result_at g.results n) (scoped_by_turns all known)
    ∙ passed_over (left_out (prepare all 0 all)) (scoped_at all known (turns all)).results n (λ i r at. apart r.unit.number (left_many all i r at))
  where
    apart : (m : ℕ) → 128 ≤ m → (m == n) ≡ false
    apart m le = grind (arith, nat_tests)

-- each of them came to something
pub scoped_came : (all : List Placed) (known : Known) (n : ℕ) → n < length (waiting all) → is_some (result_at (scoped_at all known (turns all)).results n) ≡ true
scoped_came all known n lt = done_there (scoped_at all known (turns all)).results n ∙ ap (is_in n) (scoped_done all known) ∙ each_turn all n lt

-- one too many comes to nothing
pub scoped_left : (all : List Placed) (known : Known) (n : ℕ) (p : Prepared) → 128 ≤ n → slice_get (prepare all 0 all) n ≡ Some p →
    result_at (scoped_work all (prepare all 0 all) known (length (prepare all 0 all)) scoped_before).results n ≡ Some (broken_result p TooMany)
scoped_left all known n p many at =
    let ps : List Prepared = prepare all 0 all in
    let g = scoped_at all known (turns all) in
    let le = few_taken 128 ps in
    let behind : length (take 128 ps) + (n - length (take 128 ps)) ≡ n = omega arith in
    let here : slice_get (drop 128 ps) (n - length (take 128 ps)) ≡ Some p = sym (stands 128 ps (n - length (take 128 ps))) ∙ ap (slice_get ps) behind ∙ at in
    let left : slice_get (left_out ps) (n - length (take 128 ps)) ≡ Some (broken_result p TooMany) =
    slice_get-map (λ (p : Prepared). broken_result p TooMany) (drop 128 ps) (n - length (take 128 ps)) ∙ ap (option_map (λ (p : Prepared). broken_result p TooMany)) here in
    ap (λ (g : ScopedProgress). result_at g.results n) (scoped_by_turns all known) ∙ ap (result_at (reverse (left_out ps) ++ g.results)) (sym behind)
    ∙ is_found (left_out ps) g.results (length (take 128 ps)) (n - length (take 128 ps)) (broken_result p TooMany) (left_rise all) left

get : {A : Type 0} (xs : List A) (n : ℕ) → n < length xs → (x : A) × (slice_get xs n ≡ Some x)
get [] n lt = absurd (omega arith)
get (x ∷ xs) zero lt = (x, refl)
get (x ∷ xs) (suc n) lt = get xs n (omega arith)

-- so all have a result
all_came : (all : List Placed) (known : Known) (n : ℕ) → n < length (prepare all 0 all) → is_some (result_at (scoped_work all (prepare all 0 all) known (length (prepare all 0 all)) scoped_before).results n) ≡ true
all_came all known n lt = go (cases_lt n 128)
  where
    go : (n < 128) ⊎ (128 ≤ n) → is_some (result_at (scoped_work all (prepare all 0 all) known (length (prepare all 0 all)) scoped_before).results n) ≡ true
    go (inl low) = ap (λ (o : Option UnitResult). is_some o) (scoped_result all known n low) ∙ scoped_came all known n (let e = waiting_length all in let r = taken_has 128 (prepare all 0 all) n lt low in omega arith)
    go (inr le) = let p = get (prepare all 0 all) n lt in ap (λ (o : Option UnitResult). is_some o) (scoped_left all known n p.0 le p.1)

-- and the program's units are as many, each at its place
pub scoped_units : (all : List Placed) (known : Known) → let g = scoped_work all (prepare all 0 all) known (length (prepare all 0 all)) scoped_before in
    (length (in_order g.results 0 (length (prepare all 0 all))) ≡ length (prepare all 0 all)) × ((n : ℕ) → n < length (prepare all 0 all) → slice_get (in_order g.results 0 (length (prepare all 0 all))) n ≡ result_at g.results n)
scoped_units all known =
    let g = scoped_work all (prepare all 0 all) known (length (prepare all 0 all)) scoped_before in
    let done : AreDone g.results 0 (length (prepare all 0 all)) = λ i lt. ap (λ m. is_some (result_at g.results m)) (from_none i) ∙ all_came all known i lt in
    (count_in_order g.results 0 (length (prepare all 0 all)) done, λ n lt. at_in_order g.results 0 (length (prepare all 0 all)) done n lt ∙ ap (result_at g.results) (from_none n))
  where
    from_none : (n : ℕ) → 0 + n ≡ n
    from_none n = omega arith
