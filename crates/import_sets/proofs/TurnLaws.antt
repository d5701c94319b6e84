-- The units in their turns: the first that is open, and that all come in the end where none is on a circle.
use Rattle.std.proofs.Common.{◌≡◌, ℕ, zero, suc, ◌<◌, ◌≤◌, Bool, true, false, cond, ◌⊎◌, inl, inr, List, [], ◌∷◌, ◌++◌, append-nil, append_assoc, length, slice_get, Option, Some, None, refl, sym, ap, ◌∙◌, subst, arith}
use Rattle.std.specs.Prelude.{◌||◌, ◌&&◌, ◌==◌, not}
use Rattle.std.proofs.lemmas.Bool.{eqb-true, eq-eqb, or_cases, not-true, and_parts}
use Rattle.std.proofs.lemmas.Option.{same_Some, slice_get_within}
use Rattle.scheme_model.specs.Program.{Prepared, imports_at, is_in, reached, first_ready}
use Rattle.import_sets.specs.InTurn.{all_in, is_open, and_then, in_turn, ComesAfter}
use Rattle.import_sets.specs.Graphs.{row, AreWithin, IsGraph, AreNumbered, is_marked, is_circular, all_marked}
use Rattle.import_sets.specs.Graphs as code
use Rattle.import_sets.proofs.ReachLaws.{same_test, or_left, or_right, in_push, count, count_bound, count_lt, IsWithin, reached_closed, reached_start, reached_within}

-- ---- the first that passes

is_false : {A : Type 0} (b : Bool) → b ≡ true → b ≡ false → A
is_false true p q = absurd cc
is_false false p q = absurd cc

pub ready_at : (f : Prepared → Bool) (ps : List Prepared) (n : ℕ) (p : Prepared) → slice_get ps n ≡ Some p → f p ≡ true → ((m : ℕ) (q : Prepared) → m < n → slice_get ps m ≡ Some q → f q ≡ false) → first_ready f ps ≡ Some p
ready_at f [] n p at passes before = absurd cc
ready_at f (x ∷ ps) zero p at passes before = let same : x ≡ p = same_Some x p at in rw (ap f same ∙ passes) at
ready_at f (x ∷ ps) (suc n) p at passes before =
    let first : f x ≡ false = before 0 x (omega arith) refl in
    rw first (ready_at f ps n p at passes (λ m q lt i. before (suc m) q (omega arith) i))

pub ready_none : (f : Prepared → Bool) (ps : List Prepared) → ((m : ℕ) (q : Prepared) → slice_get ps m ≡ Some q → f q ≡ false) → first_ready f ps ≡ None
ready_none f [] fails = refl
ready_none f (x ∷ ps) fails = let first : f x ≡ false = fails 0 x refl in rw first (ready_none f ps (λ m q i. fails (suc m) q i))

-- what is found passes, and stands in the list
pub ready_found : (f : Prepared → Bool) (ps : List Prepared) (p : Prepared) → first_ready f ps ≡ Some p → (f p ≡ true) × ((n : ℕ) × (slice_get ps n ≡ Some p))
ready_found f [] p h = absurd cc
ready_found f (x ∷ ps) p h = go (ready_found f ps p) (f x) refl h
  where
    go : (first_ready f ps ≡ Some p → (f p ≡ true) × ((n : ℕ) × (slice_get ps n ≡ Some p))) → (b : Bool) → f x ≡ b → cond b (Some x) (first_ready f ps) ≡ Some p → (f p ≡ true) × ((n : ℕ) × (slice_get (x ∷ ps) n ≡ Some p))
    go more true e i = (ap f (sym (same_Some x p i)) ∙ e, (0, i))
    go more false e i = let r = more i in (r.0, (suc r.1.0, r.1.1))

-- where nothing is found, nothing passes
pub ready_missing : (f : Prepared → Bool) (ps : List Prepared) → first_ready f ps ≡ None → (n : ℕ) (p : Prepared) → slice_get ps n ≡ Some p → f p ≡ false
ready_missing f [] h n p at = absurd cc
ready_missing f (x ∷ ps) h n p at = go (λ i n at. ready_missing f ps i n p at) (f x) refl h n at
  where
    go : (first_ready f ps ≡ None → (n : ℕ) → slice_get ps n ≡ Some p → f p ≡ false) → (b : Bool) → f x ≡ b → cond b (Some x) (first_ready f ps) ≡ None → (n : ℕ) → slice_get (x ∷ ps) n ≡ Some p → f p ≡ false
    go more true e i n at = absurd cc
    go more false e i zero at = ap f (sym (same_Some x p at)) ∙ e
    go more false e i (suc n) at = more i n at

-- ---- what is open, by marks

member : (done ys : List ℕ) (x : ℕ) → all_in done ys ≡ true → is_in x ys ≡ true → is_in x done ≡ true
member done [] x k i = absurd cc
member done (y ∷ ys) x k i = go (member done ys x) (and_parts (is_in y done) (all_in done ys) k) (or_cases (x == y) (is_in x ys) i)
  where
    go : (all_in done ys ≡ true → is_in x ys ≡ true → is_in x done ≡ true) → (is_in y done ≡ true) × (all_in done ys ≡ true) → ((x == y) ≡ true) ⊎ (is_in x ys ≡ true) → is_in x done ≡ true
    go more both (inl e) = ap (λ z. is_in z done) (eqb-true x y e) ∙ both.0
    go more both (inr e) = more both.1 e

all_in_same : (done xs ys : List ℕ) → ((m : ℕ) → is_in m xs ≡ true → is_in m ys ≡ true) → all_in done ys ≡ true → all_in done xs ≡ true
all_in_same done [] ys h k = refl
all_in_same done (x ∷ xs) ys h k =
    (λ j. member done ys x k (h x (or_left (x == x) (is_in x xs) (eq-eqb x x refl))) j && all_in_same done xs ys (λ m i. h m (or_right (m == x) (is_in m xs) i)) k j)

pub all_in_members : (done xs ys : List ℕ) → ((m : ℕ) → is_in m xs ≡ is_in m ys) → all_in done xs ≡ all_in done ys
all_in_members done xs ys h =
    same_test (all_in done xs) (all_in done ys) (all_in_same done ys xs (λ m i. h m ∙ i)) (all_in_same done xs ys (λ m i. sym (h m) ∙ i))

marked_in : (done : List ℕ) (ms : List Bool) → ((n : ℕ) → is_marked ms n ≡ is_in n done) → (ns : List ℕ) → all_marked ms ns ≡ all_in done ns
marked_in done ms h [] = refl
marked_in done ms h (n ∷ ns) = (λ j. h n j && marked_in done ms h ns j)

-- the unit at a place is open where the code finds it open
pub open_same : (g : List (List ℕ)) (ps : List Prepared) → IsGraph g ps → AreNumbered ps → (done : List ℕ) (ms : List Bool) → ((n : ℕ) → is_marked ms n ≡ is_in n done) → (n : ℕ) (p : Prepared) → slice_get ps n ≡ Some p →
    is_open done p ≡ code.is_open g ms n
open_same g ps is numbered done ms same n p at =
    let own = numbered n p at in
    (λ j. not (is_in (own.0 j) done) && all_in done (own.1 j))
    ∙ (λ j. not (sym (same n) j) && all_in_members done (imports_at ps n) (row g n) (λ m. sym (is.imports n m)) j)
    ∙ ap (λ b. not (is_marked ms n) && b) (sym (marked_in done ms same (row g n)))

-- ---- a unit that waits for another that isn't done

waits : (done ns : List ℕ) → all_in done ns ≡ false → (v : ℕ) × ((is_in v ns ≡ true) × (is_in v done ≡ false))
waits done [] h = absurd cc
waits done (n ∷ ns) h = go (waits done ns) (is_in n done) refl h
  where
    go : (all_in done ns ≡ false → (v : ℕ) × ((is_in v ns ≡ true) × (is_in v done ≡ false))) → (b : Bool) → is_in n done ≡ b → (b && all_in done ns) ≡ false → (v : ℕ) × ((is_in v (n ∷ ns) ≡ true) × (is_in v done ≡ false))
    go more true e i = let w = more i in (w.0, (or_right (w.0 == n) (is_in w.0 ns) w.1.0, w.1.1))
    go more false e i = (n, (or_left (n == n) (is_in n ns) (eq-eqb n n refl), e))

abbrev AreStuck : List Prepared → List ℕ → Type 0
AreStuck ps done = (u : ℕ) → u < length ps → is_in u done ≡ false → (v : ℕ) × ((is_in v (imports_at ps u) ≡ true) × (is_in v done ≡ false))

all_stuck : (ps : List Prepared) → AreNumbered ps → (done : List ℕ) → first_ready (is_open done) ps ≡ None → AreStuck ps done
all_stuck ps numbered done none u lt undone = go (get ps u lt)
  where
    get : (ps : List Prepared) (u : ℕ) → u < length ps → (p : Prepared) × (slice_get ps u ≡ Some p)
    get [] u lt = absurd (omega arith)
    get (p ∷ ps) zero lt = (p, refl)
    get (p ∷ ps) (suc u) lt = get ps u (omega arith)

    go : (p : Prepared) × (slice_get ps u ≡ Some p) → (v : ℕ) × ((is_in v (imports_at ps u) ≡ true) × (is_in v done ≡ false))
    go (p, at) =
        let own = numbered u p at in
        let closed : is_open done p ≡ false = ready_missing (is_open done) ps none u p at in
        let not_done : not (is_in p.number done) ≡ true = ap (λ n. not (is_in n done)) own.0 ∙ ap not undone in
        let some : all_in done p.imports ≡ false = sym (ap (λ b. b && all_in done p.imports) not_done) ∙ closed in
        waits done (imports_at ps u) (ap (all_in done) (sym own.1) ∙ some)

-- ---- no circle, and so no end of waiting

abbrev HasNoCircle : List Prepared → Type 0
HasNoCircle ps = (n : ℕ) → n < length ps → is_circular ps n ≡ false

abbrev below : List Prepared → ℕ → ℕ → Bool
below ps u i = is_in i (reached ps (length ps) (imports_at ps u))

fewer : (ps : List Prepared) → IsWithin ps → HasNoCircle ps → (u v : ℕ) → is_in v (imports_at ps u) ≡ true → count (length ps) (below ps v) < count (length ps) (below ps u)
fewer ps within none u v h =
    count_lt (length ps) (below ps v) (below ps u)
    (reached_within ps (below ps u) (reached_closed ps within (imports_at ps u)) (length ps) (imports_at ps v)
    (λ m i. reached_closed ps within (imports_at ps u) v m (reached_start ps (length ps) (imports_at ps u) v h) i))
    v (within u v h) (none v (within u v h)) (reached_start ps (length ps) (imports_at ps u) v h)

no_waiting : (ps : List Prepared) → IsWithin ps → HasNoCircle ps → (done : List ℕ) → AreStuck ps done → (c u : ℕ) → u < length ps → is_in u done ≡ false → count (length ps) (below ps u) ≤ c → ⊥
no_waiting ps within none done stuck zero u lt undone le =
    let w = stuck u lt undone in let less = fewer ps within none u w.0 w.1.0 in absurd (omega arith)
no_waiting ps within none done stuck (suc c) u lt undone le =
    let w = stuck u lt undone in let less = fewer ps within none u w.0 w.1.0 in no_waiting ps within none done stuck c w.0 (within u w.0 w.1.0) w.1.1 (omega arith)

-- ---- all come

abbrev undone : List ℕ → ℕ → Bool
undone done n = not (is_in n done)

fewer_undone : (n : ℕ) (done : List ℕ) (k : ℕ) → k < n → is_in k done ≡ false → count n (undone (done ++ k ∷ [])) < count n (undone done)
fewer_undone n done k lt h =
    count_lt n (undone (done ++ k ∷ [])) (undone done) (λ i e. before i (is_in i done) refl e) k lt
    (ap not (in_push k done k ∙ or_right (is_in k done) (k == k) (eq-eqb k k refl))) (ap not h)
  where
    before : (i : ℕ) (b : Bool) → is_in i done ≡ b → not (is_in i (done ++ k ∷ [])) ≡ true → not (is_in i done) ≡ true
    before i true p e = is_false (is_in i (done ++ k ∷ [])) (in_push i done k ∙ or_left (is_in i done) (i == k) p) (not-true (is_in i (done ++ k ∷ [])) e)
    before i false p e = ap not p

pub all_come : (ps : List Prepared) → AreNumbered ps → IsWithin ps → HasNoCircle ps → (t : ℕ) (done : List ℕ) → count (length ps) (undone done) ≤ t → (n : ℕ) → n < length ps → is_in n done ≡ false → is_in n (in_turn ps t done) ≡ true
all_come ps numbered within none zero done le n lt h =
    let some = count_lt (length ps) (λ i. false) (undone done) (λ i e. absurd cc) n lt refl (ap not h) in absurd (omega arith)
all_come ps numbered within none (suc t) done le n lt h = go (λ next less i. all_come ps numbered within none t next less n lt i) (first_ready (is_open done) ps) refl
  where
    go : ((next : List ℕ) → count (length ps) (undone next) ≤ t → is_in n next ≡ false → is_in n (in_turn ps t next) ≡ true) → (o : Option Prepared) → first_ready (is_open done) ps ≡ o → is_in n (and_then o (λ p. p.number ∷ in_turn ps t (done ++ p.number ∷ []))) ≡ true
    go more None e = absurd (no_waiting ps within none done (all_stuck ps numbered done e) (count (length ps) (below ps n)) n lt h (omega arith))
    go more (Some p) e = by (n == p.number) refl
      where
        by : (b : Bool) → (n == p.number) ≡ b → (b || is_in n (in_turn ps t (done ++ p.number ∷ []))) ≡ true
        by true i = refl
        by false i =
            let found = ready_found (is_open done) ps p e in
            let own = numbered found.1.0 p found.1.1 in
            let inside = slice_get_within ps found.1.0 p found.1.1 in
            let number_below : p.number < length ps = let e = own.0 in omega arith in
            let not_done : is_in p.number done ≡ false = not-true (is_in p.number done) (and_parts (not (is_in p.number done)) (all_in done p.imports) found.0).0 in
            let less = fewer_undone (length ps) done p.number number_below not_done in
            more (done ++ p.number ∷ []) (omega arith) (in_push n done p.number ∙ (λ j. h j || i j))

pub every_unit : (ps : List Prepared) → AreNumbered ps → IsWithin ps → HasNoCircle ps → (n : ℕ) → n < length ps → is_in n (in_turn ps (length ps) []) ≡ true
every_unit ps numbered within none n lt = all_come ps numbered within none (length ps) [] (count_bound (length ps) (undone [])) n lt refl

-- ---- each comes once, and after what it imports

open_after : (ps : List Prepared) → AreNumbered ps → (done : List ℕ) (p : Prepared) (n : ℕ) → first_ready (is_open done) ps ≡ Some p → p.number ≡ n → ComesAfter ps done n
open_after ps numbered done p n e same =
    let found = ready_found (is_open done) ps p e in
    let own = numbered found.1.0 p found.1.1 in
    let both = and_parts (not (is_in p.number done)) (all_in done p.imports) found.0 in
    let there : p.imports ≡ imports_at ps n = own.1 ∙ ap (imports_at ps) (sym own.0 ∙ same) in
    record {
      once = ap (λ m. is_in m done) (sym same) ∙ not-true (is_in p.number done) both.0;
      imports = λ m i. member done p.imports m both.1 (ap (is_in m) there ∙ i);
    }

pub comes_after : (ps : List Prepared) → AreNumbered ps → (t : ℕ) (done before rest : List ℕ) (n : ℕ) → in_turn ps t done ≡ before ++ n ∷ rest → ComesAfter ps (done ++ before) n
comes_after ps numbered zero done [] rest n h = absurd cc
comes_after ps numbered zero done (b ∷ before) rest n h = absurd cc
comes_after ps numbered (suc t) done before rest n h = go (λ next left i. comes_after ps numbered t next left rest n i) (first_ready (is_open done) ps) refl before h
  where
    go : ((next left : List ℕ) → in_turn ps t next ≡ left ++ n ∷ rest → ComesAfter ps (next ++ left) n) → (o : Option Prepared) → first_ready (is_open done) ps ≡ o → (before : List ℕ) →
        and_then o (λ p. p.number ∷ in_turn ps t (done ++ p.number ∷ [])) ≡ before ++ n ∷ rest → ComesAfter ps (done ++ before) n
    go more None e [] k = absurd cc
    go more None e (b ∷ left) k = absurd cc
    go more (Some p) e [] k = let same : p.number ≡ n = cc in subst (λ (l : List ℕ). ComesAfter ps l n) (sym (append-nil done)) (open_after ps numbered done p n e same)
    go more (Some p) e (b ∷ left) k =
        let same : p.number ≡ b = cc in
        let behind : in_turn ps t (done ++ p.number ∷ []) ≡ left ++ n ∷ rest = cc in
        subst (λ (l : List ℕ). ComesAfter ps l n) (append_assoc done (p.number ∷ []) left ∙ ap (λ m. done ++ m ∷ left) same) (more (done ++ p.number ∷ []) left behind)
