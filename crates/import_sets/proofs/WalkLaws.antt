-- Going through what units import: marks, what is left, and what is marked in the end.
use Rattle.std.proofs.Common.{◌≡◌, ℕ, zero, suc, ◌+◌, ◌<◌, Bool, true, false, cond, ◌⊎◌, inl, inr, List, [], ◌∷◌, ◌++◌, length, drop, get_or, slice_set, replicate, refl, sym, ap, ◌∙◌, subst, arith}
use Rattle.std.specs.Prelude.{◌||◌, ◌&&◌, ◌==◌, not}
use Rattle.std.proofs.lemmas.Bool.{eqb-true, eq-eqb, or_cases}
use Rattle.std.proofs.lemmas.List.{length-set, length_push, length-replicate, drop_more, nil_from_length, get_or-set_same, get_or-set_other}
use Rattle.scheme_model.specs.Program.{Prepared, imports_at, is_in, reached}
use Rattle.import_sets.specs.Graphs.{row, AreWithin, IsGraph, is_marked, Marks, marks, mark, mark_all, unmarked}
use Rattle.import_sets.proofs.ReachLaws.{same_test, or_none, or_one, or_joined, or_left, or_right, in_push, IsWithin, reached_closed, reached_start, reached_within}

-- ---- one mark

not_true : {A : Type 0} (b : Bool) → b ≡ true → b ≡ false → A
not_true true p q = absurd cc
not_true false p q = absurd cc

pub mark_size : (w : Marks) (p : ℕ) → length (mark w p).marked ≡ length w.marked
mark_size w p = go (is_marked w.marked p)
  where
    go : (b : Bool) → length (cond b w (marks (slice_set w.marked p true) (w.left ++ p ∷ []))).marked ≡ length w.marked
    go true = refl
    go false = length-set w.marked p true

pub set_marked : (ms : List Bool) (p m : ℕ) → p < length ms → is_marked (slice_set ms p true) m ≡ (is_marked ms m || (m == p))
set_marked ms p m lt = go (m == p) refl
  where
    go : (b : Bool) → (m == p) ≡ b → is_marked (slice_set ms p true) m ≡ (is_marked ms m || b)
    go true e = ap (is_marked (slice_set ms p true)) (eqb-true m p e) ∙ get_or-set_same ms p true false lt ∙ sym (or_one (is_marked ms m))
    go false e = get_or-set_other ms p m true false (apart e) ∙ sym (or_none (is_marked ms m))
      where
        apart : (m == p) ≡ false → m ≡ p → ⊥
        apart e k = not_true (m == p) (eq-eqb m p k) e

pub mark_marked : (w : Marks) (p m : ℕ) → p < length w.marked → is_marked (mark w p).marked m ≡ (is_marked w.marked m || (m == p))
mark_marked w p m lt = go (is_marked w.marked p) refl
  where
    same : is_marked w.marked p ≡ true → (c : Bool) → (m == p) ≡ c → is_marked w.marked m ≡ (is_marked w.marked m || c)
    same h true e = ap (is_marked w.marked) (eqb-true m p e) ∙ h ∙ sym (or_one (is_marked w.marked m))
    same h false e = sym (or_none (is_marked w.marked m))

    go : (b : Bool) → is_marked w.marked p ≡ b → is_marked (cond b w (marks (slice_set w.marked p true) (w.left ++ p ∷ []))).marked m ≡ (is_marked w.marked m || (m == p))
    go true h = same h (m == p) refl
    go false h = set_marked w.marked p m lt

pub mark_left : (w : Marks) (p m : ℕ) → is_in m (mark w p).left ≡ (is_in m w.left || (not (is_marked w.marked m) && (m == p)))
mark_left w p m = go (is_marked w.marked p) refl (m == p) refl
  where
    nothing : (b : Bool) → (b && false) ≡ false
    nothing true = refl
    nothing false = refl

    go : (b : Bool) → is_marked w.marked p ≡ b → (c : Bool) → (m == p) ≡ c →
        is_in m (cond b w (marks (slice_set w.marked p true) (w.left ++ p ∷ []))).left ≡ (is_in m w.left || (not (is_marked w.marked m) && c))
    go true h true e = sym (ap (λ b. is_in m w.left || (not b && true)) (ap (is_marked w.marked) (eqb-true m p e) ∙ h) ∙ or_none (is_in m w.left))
    go true h false e = sym (ap (λ b. is_in m w.left || b) (nothing (not (is_marked w.marked m))) ∙ or_none (is_in m w.left))
    go false h true e = in_push m w.left p ∙ ap (λ b. is_in m w.left || b) e ∙ sym (ap (λ b. is_in m w.left || (not b && true)) (ap (is_marked w.marked) (eqb-true m p e) ∙ h))
    go false h false e = in_push m w.left p ∙ ap (λ b. is_in m w.left || b) e ∙ sym (ap (λ b. is_in m w.left || b) (nothing (not (is_marked w.marked m))))

-- ---- marks of all

pub mark_all_size : (w : Marks) (ps : List ℕ) → length (mark_all w ps).marked ≡ length w.marked
mark_all_size w [] = refl
mark_all_size w (p ∷ ps) = mark_all_size (mark w p) ps ∙ mark_size w p

abbrev AllBelow : List ℕ → ℕ → Type 0
AllBelow ps n = (p : ℕ) → is_in p ps ≡ true → p < n

head_below : (p : ℕ) (ps : List ℕ) (n : ℕ) → AllBelow (p ∷ ps) n → p < n
head_below p ps n h = h p (or_left (p == p) (is_in p ps) (eq-eqb p p refl))

tail_below : (p : ℕ) (ps : List ℕ) (n k : ℕ) → n ≡ k → AllBelow (p ∷ ps) n → AllBelow ps k
tail_below p ps n k e h q i = let lt = h q (or_right (q == p) (is_in q ps) i) in omega arith

pub mark_all_marked : (w : Marks) (ps : List ℕ) (m : ℕ) → AllBelow ps (length w.marked) → is_marked (mark_all w ps).marked m ≡ (is_marked w.marked m || is_in m ps)
mark_all_marked w [] m h = sym (or_none (is_marked w.marked m))
mark_all_marked w (p ∷ ps) m h =
    mark_all_marked (mark w p) ps m (tail_below p ps (length w.marked) (length (mark w p).marked) (sym (mark_size w p)) h)
    ∙ ap (λ b. b || is_in m ps) (mark_marked w p m (head_below p ps (length w.marked) h)) ∙ sym (or_joined (is_marked w.marked m) (m == p) (is_in m ps))

left_tests : (l k e i : Bool) → ((l || (not k && e)) || (not (k || e) && i)) ≡ (l || (not k && (e || i)))
left_tests true k e i = refl
left_tests false true e i = refl
left_tests false false true i = refl
left_tests false false false i = refl

pub mark_all_left : (w : Marks) (ps : List ℕ) (m : ℕ) → AllBelow ps (length w.marked) → is_in m (mark_all w ps).left ≡ (is_in m w.left || (not (is_marked w.marked m) && is_in m ps))
mark_all_left w [] m h = sym (ap (λ b. is_in m w.left || b) (nothing (not (is_marked w.marked m))) ∙ or_none (is_in m w.left))
  where
    nothing : (b : Bool) → (b && false) ≡ false
    nothing true = refl
    nothing false = refl
mark_all_left w (p ∷ ps) m h =
    mark_all_left (mark w p) ps m (tail_below p ps (length w.marked) (length (mark w p).marked) (sym (mark_size w p)) h)
    ∙ (λ j. mark_left w p m j || (not (mark_marked w p m (head_below p ps (length w.marked) h) j) && is_in m ps))
    ∙ left_tests (is_in m w.left) (is_marked w.marked m) (m == p) (is_in m ps)

-- ---- what is still to do

set_unmarked : (ms : List Bool) (p : ℕ) → p < length ms → is_marked ms p ≡ false → suc (unmarked (slice_set ms p true)) ≡ unmarked ms
set_unmarked [] p lt h = absurd (omega arith)
set_unmarked (true ∷ ms) zero lt h = absurd cc
set_unmarked (false ∷ ms) zero lt h = refl
set_unmarked (true ∷ ms) (suc p) lt h = set_unmarked ms p (omega arith) h
set_unmarked (false ∷ ms) (suc p) lt h = ap suc (set_unmarked ms p (omega arith) h)

mark_work : (w : Marks) (p : ℕ) → p < length w.marked → unmarked (mark w p).marked + length (mark w p).left ≡ unmarked w.marked + length w.left
mark_work w p lt = go (is_marked w.marked p) refl
  where
    go : (b : Bool) → is_marked w.marked p ≡ b → unmarked (cond b w (marks (slice_set w.marked p true) (w.left ++ p ∷ []))).marked + length (cond b w (marks (slice_set w.marked p true) (w.left ++ p ∷ []))).left ≡ unmarked w.marked + length w.left
    go true h = refl
    go false h = let less = set_unmarked w.marked p lt h in let more = length_push w.left p in omega arith

pub mark_all_work : (w : Marks) (ps : List ℕ) → AllBelow ps (length w.marked) → unmarked (mark_all w ps).marked + length (mark_all w ps).left ≡ unmarked w.marked + length w.left
mark_all_work w [] h = refl
mark_all_work w (p ∷ ps) h =
    mark_all_work (mark w p) ps (tail_below p ps (length w.marked) (length (mark w p).marked) (sym (mark_size w p)) h) ∙ mark_work w p (head_below p ps (length w.marked) h)

-- ---- a walk

-- the marks fit, and all that is left is a unit
pub record IsSafe (g : List (List ℕ)) (w : Marks) : Type 0 where
  pub size : length w.marked ≡ length g
  pub below : (m : ℕ) → is_in m w.left ≡ true → m < length g

-- marked is what the start imports, and what the marked units import but for those that are left; all of it is reached
pub record IsWalk (ps : List Prepared) (start : ℕ) (w : Marks) : Type 0 where
  pub met : (m : ℕ) → is_in m (imports_at ps start) ≡ true → is_marked w.marked m ≡ true
  pub left : (m : ℕ) → is_in m w.left ≡ true → is_marked w.marked m ≡ true
  pub closed : (n m : ℕ) → is_marked w.marked n ≡ true → is_in n w.left ≡ false → is_in m (imports_at ps n) ≡ true → is_marked w.marked m ≡ true
  pub sound : (m : ℕ) → is_marked w.marked m ≡ true → is_in m (reached ps (length ps) (imports_at ps start)) ≡ true

pub safe_step : (g : List (List ℕ)) → AreWithin g → (w : Marks) (n : ℕ) → IsSafe g w → IsSafe g (mark_all w (row g n))
safe_step g within w n h = record {
  size = mark_all_size w (row g n) ∙ h.size;
  below = λ m i. go m (or_cases (is_in m w.left) (not (is_marked w.marked m) && is_in m (row g n)) (sym (mark_all_left w (row g n) m (fits)) ∙ i));
}
  where
    fits : AllBelow (row g n) (length w.marked)
    fits p i = let lt = within n p i in let e = h.size in omega arith

    second : (a b : Bool) → (a && b) ≡ true → b ≡ true
    second true b e = e
    second false b e = absurd cc

    go : (m : ℕ) → (is_in m w.left ≡ true) ⊎ ((not (is_marked w.marked m) && is_in m (row g n)) ≡ true) → m < length g
    go m (inl e) = h.below m e
    go m (inr e) = within n m (second (not (is_marked w.marked m)) (is_in m (row g n)) e)

pub graph_within : (g : List (List ℕ)) (ps : List Prepared) → AreWithin g → IsGraph g ps → IsWithin ps
graph_within g ps within is n m i = let lt = within n m (is.imports n m ∙ i) in let e = is.size in omega arith

in_left : (m : ℕ) (xs : List ℕ) (y : ℕ) → is_in m xs ≡ true → is_in m (xs ++ y ∷ []) ≡ true
in_left m xs y h = in_push m xs y ∙ or_left (is_in m xs) (m == y) h

in_last : (xs : List ℕ) (y : ℕ) → is_in y (xs ++ y ∷ []) ≡ true
in_last xs y = in_push y xs y ∙ or_right (is_in y xs) (y == y) (eq-eqb y y refl)

-- the unit that was left last is gone through
pub walk_step : (g : List (List ℕ)) (ps : List Prepared) (start n : ℕ) → AreWithin g → IsGraph g ps → (ms : List Bool) (ns : List ℕ) → IsSafe g (marks ms ns) → IsWalk ps start (marks ms (ns ++ n ∷ [])) →
    IsWalk ps start (mark_all (marks ms ns) (row g n))
walk_step g ps start n within is ms ns safe h = record {
  met = λ m i. keeps m (h.met m i);
  left = λ m i. left_marked m (or_cases (is_in m ns) (not (is_marked ms m) && is_in m (row g n)) (sym (at_left m) ∙ i));
  closed = λ k m i j l. closed_again k m (is_marked ms k) refl (is_in k ns) refl i j l;
  sound = λ m i. still_sound m (or_cases (is_marked ms m) (is_in m (row g n)) (sym (at_marked m) ∙ i));
}
  where
    fits : AllBelow (row g n) (length ms)
    fits p i = let lt = within n p i in let e = safe.size in omega arith

    at_marked : (m : ℕ) → is_marked (mark_all (marks ms ns) (row g n)).marked m ≡ (is_marked ms m || is_in m (row g n))
    at_marked m = mark_all_marked (marks ms ns) (row g n) m fits

    at_left : (m : ℕ) → is_in m (mark_all (marks ms ns) (row g n)).left ≡ (is_in m ns || (not (is_marked ms m) && is_in m (row g n)))
    at_left m = mark_all_left (marks ms ns) (row g n) m fits

    keeps : (m : ℕ) → is_marked ms m ≡ true → is_marked (mark_all (marks ms ns) (row g n)).marked m ≡ true
    keeps m i = at_marked m ∙ or_left (is_marked ms m) (is_in m (row g n)) i

    adds : (m : ℕ) → is_in m (row g n) ≡ true → is_marked (mark_all (marks ms ns) (row g n)).marked m ≡ true
    adds m i = at_marked m ∙ or_right (is_marked ms m) (is_in m (row g n)) i

    second : (a b : Bool) → (a && b) ≡ true → b ≡ true
    second true b e = e
    second false b e = absurd cc

    left_marked : (m : ℕ) → (is_in m ns ≡ true) ⊎ ((not (is_marked ms m) && is_in m (row g n)) ≡ true) → is_marked (mark_all (marks ms ns) (row g n)).marked m ≡ true
    left_marked m (inl e) = keeps m (h.left m (in_left m ns n e))
    left_marked m (inr e) = adds m (second (not (is_marked ms m)) (is_in m (row g n)) e)

    still_sound : (m : ℕ) → (is_marked ms m ≡ true) ⊎ (is_in m (row g n) ≡ true) → is_in m (reached ps (length ps) (imports_at ps start)) ≡ true
    still_sound m (inl e) = h.sound m e
    still_sound m (inr e) =
        reached_closed ps (graph_within g ps within is) (imports_at ps start) n m (h.sound n (h.left n (in_last ns n))) (sym (is.imports n m) ∙ e)

    -- a unit that was marked before: it is the one that is gone through, or it was closed, unless it is left
    old : (k m : ℕ) → is_marked ms k ≡ true → is_in k ns ≡ false → (b : Bool) → (k == n) ≡ b → is_in m (imports_at ps k) ≡ true → is_marked (mark_all (marks ms ns) (row g n)).marked m ≡ true
    old k m i j true e l = adds m (is.imports n m ∙ ap (λ y. is_in m (imports_at ps y)) (sym (eqb-true k n e)) ∙ l)
    old k m i j false e l = keeps m (h.closed k m i (in_push k ns n ∙ (λ t. j t || e t)) l)

    closed_again : (k m : ℕ) → (a : Bool) → is_marked ms k ≡ a → (b : Bool) → is_in k ns ≡ b → is_marked (mark_all (marks ms ns) (row g n)).marked k ≡ true → is_in k (mark_all (marks ms ns) (row g n)).left ≡ false →
        is_in m (imports_at ps k) ≡ true → is_marked (mark_all (marks ms ns) (row g n)).marked m ≡ true
    closed_again k m a p true q i j l = not_true (is_in k (mark_all (marks ms ns) (row g n)).left) (at_left k ∙ or_left (is_in k ns) (not (is_marked ms k) && is_in k (row g n)) q) j
    closed_again k m true p false q i j l = old k m p q (k == n) refl l
    closed_again k m false p false q i j l =
        let here : is_in k (row g n) ≡ true = sym (at_marked k ∙ ap (λ b. b || is_in k (row g n)) p) ∙ i in
        not_true (is_in k (mark_all (marks ms ns) (row g n)).left) (at_left k ∙ (λ t. q t || (not (p t) && here t))) j

-- ---- the beginning and the end

unmarked_none : (n m : ℕ) → is_marked (replicate n false) m ≡ false
unmarked_none zero m = refl
unmarked_none (suc n) zero = refl
unmarked_none (suc n) (suc m) = unmarked_none n m

pub safe_start : (g : List (List ℕ)) (n : ℕ) → n ≡ length g → IsSafe g (marks (replicate n false) [])
safe_start g n e = record { size = length-replicate n false ∙ e; below = λ m i. absurd cc }

pub walk_start : (g : List (List ℕ)) (ps : List Prepared) (start n : ℕ) → AreWithin g → IsGraph g ps → n ≡ length g → IsWalk ps start (mark_all (marks (replicate n false) []) (row g start))
walk_start g ps start n within is e = record {
  met = λ m i. at_marked m ∙ is.imports start m ∙ i;
  left = λ m i. at_marked m ∙ sym (at_left m) ∙ i;
  closed = λ k m i j l. not_true (is_in k (row g start)) (sym (at_marked k) ∙ i) (sym (at_left k) ∙ j);
  sound = λ m i. reached_start ps (length ps) (imports_at ps start) m (sym (is.imports start m) ∙ sym (at_marked m) ∙ i);
}
  where
    fits : AllBelow (row g start) (length (replicate n false))
    fits p i = let lt = within start p i in let size = length-replicate n false in omega arith

    at_marked : (m : ℕ) → is_marked (mark_all (marks (replicate n false) []) (row g start)).marked m ≡ is_in m (row g start)
    at_marked m = mark_all_marked (marks (replicate n false) []) (row g start) m fits ∙ ap (λ b. b || is_in m (row g start)) (unmarked_none n m)

    at_left : (m : ℕ) → is_in m (mark_all (marks (replicate n false) []) (row g start)).left ≡ is_in m (row g start)
    at_left m = mark_all_left (marks (replicate n false) []) (row g start) m fits ∙ ap (λ b. not b && is_in m (row g start)) (unmarked_none n m)

pub walk_end : (ps : List Prepared) (start : ℕ) (ms : List Bool) → IsWalk ps start (marks ms []) → (m : ℕ) → is_marked ms m ≡ is_in m (reached ps (length ps) (imports_at ps start))
walk_end ps start ms h m =
    same_test (is_marked ms m) (is_in m (reached ps (length ps) (imports_at ps start))) (h.sound m)
    (reached_within ps (is_marked ms) (λ n m i j. h.closed n m i refl j) (length ps) (imports_at ps start) h.met m)

-- ---- the code's way

pub mark_next : (w v : Marks) (ps : List ℕ) (i : ℕ) → i < length ps → v ≡ mark w (get_or ps i 0) → mark_all v (drop (i + 1) ps) ≡ mark_all w (drop i ps)
mark_next w v ps i lt e = ap (λ x. mark_all x (drop (i + 1) ps)) e ∙ sym (ap (mark_all w) (drop_more ps i 0 lt))

without_last : (g : List (List ℕ)) (ms : List Bool) (ns : List ℕ) (n : ℕ) → IsSafe g (marks ms (ns ++ n ∷ [])) → IsSafe g (marks ms ns)
without_last g ms ns n h = record { size = h.size; below = λ m i. h.below m (in_left m ns n i) }

pub last_below : (g : List (List ℕ)) (ms : List Bool) (ls ns : List ℕ) (n : ℕ) → ls ≡ ns ++ n ∷ [] → IsSafe g (marks ms ls) → n < length g
last_below g ms ls ns n e h = h.below n (ap (is_in n) e ∙ in_last ns n)

pub safe_next : (g : List (List ℕ)) → AreWithin g → (ms : List Bool) (ls ns : List ℕ) (n : ℕ) (v : Marks) → ls ≡ ns ++ n ∷ [] → v ≡ mark_all (marks ms ns) (row g n) → IsSafe g (marks ms ls) → IsSafe g v
safe_next g within ms ls ns n v e k h =
    subst (IsSafe g) (sym k) (safe_step g within (marks ms ns) n (without_last g ms ns n (subst (λ (l : List ℕ). IsSafe g (marks ms l)) e h)))

pub walk_next : (g : List (List ℕ)) (ps : List Prepared) (start : ℕ) → AreWithin g → IsGraph g ps → (ms : List Bool) (ls ns : List ℕ) (n : ℕ) (v : Marks) → ls ≡ ns ++ n ∷ [] → v ≡ mark_all (marks ms ns) (row g n) →
    IsSafe g (marks ms ls) → IsWalk ps start (marks ms ls) → IsWalk ps start v
walk_next g ps start within is ms ls ns n v e k safe h =
    subst (IsWalk ps start) (sym k)
    (walk_step g ps start n within is ms ns (without_last g ms ns n (subst (λ (l : List ℕ). IsSafe g (marks ms l)) e safe)) (subst (λ (l : List ℕ). IsWalk ps start (marks ms l)) e h))

pub work_less : (g : List (List ℕ)) → AreWithin g → (ms : List Bool) (ls ns : List ℕ) (n : ℕ) (v : Marks) → ls ≡ ns ++ n ∷ [] → v ≡ mark_all (marks ms ns) (row g n) → IsSafe g (marks ms ls) →
    unmarked v.marked + length v.left < unmarked ms + length ls
work_less g within ms ls ns n v e k h =
    let same = mark_all_work (marks ms ns) (row g n) (λ p i. let lt = within n p i in let size = h.size in omega arith) in
    let there : unmarked v.marked + length v.left ≡ unmarked ms + length ns = ap (λ (w : Marks). unmarked w.marked + length w.left) k ∙ same in
    let more : length ls ≡ length ns + 1 = ap length e ∙ length_push ns n in
    omega arith

pub safe_first : (g : List (List ℕ)) → AreWithin g → (start n : ℕ) (v : Marks) → n ≡ length g → v ≡ mark_all (marks (replicate n false) []) (row g start) → IsSafe g v
safe_first g within start n v e k = subst (IsSafe g) (sym k) (safe_step g within (marks (replicate n false) []) start (safe_start g n e))

pub walk_first : (g : List (List ℕ)) (ps : List Prepared) (start n : ℕ) (v : Marks) → AreWithin g → IsGraph g ps → n ≡ length g → v ≡ mark_all (marks (replicate n false) []) (row g start) → IsWalk ps start v
walk_first g ps start n v within is e k = subst (IsWalk ps start) (sym k) (walk_start g ps start n within is e)

pub mark_seen : (ms : List Bool) (ns : List ℕ) (p : ℕ) → is_marked ms p ≡ true → marks ms ns ≡ mark (marks ms ns) p
mark_seen ms ns p h = sym (ap (λ b. cond b (marks ms ns) (marks (slice_set ms p true) (ns ++ p ∷ []))) h)

pub mark_new : (ms : List Bool) (ns : List ℕ) (p : ℕ) → is_marked ms p ≡ false → marks (slice_set ms p true) (ns ++ p ∷ []) ≡ mark (marks ms ns) p
mark_new ms ns p h = sym (ap (λ b. cond b (marks ms ns) (marks (slice_set ms p true) (ns ++ p ∷ []))) h)

pub walk_done : (ps : List Prepared) (start : ℕ) (ms : List Bool) (ls : List ℕ) → length ls ≡ 0 → IsWalk ps start (marks ms ls) → (m : ℕ) → is_marked ms m ≡ is_in m (reached ps (length ps) (imports_at ps start))
walk_done ps start ms ls none h = walk_end ps start ms (subst (λ (l : List ℕ). IsWalk ps start (marks ms l)) (nil_from_length ls none) h)
