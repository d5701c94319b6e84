-- Marks, one more of them, and how many there are.
use Rattle.std.proofs.Common.{◌≡◌, ◌⊎◌, inl, inr, ℕ, zero, suc, ◌+◌, ◌≤◌, ◌<◌, List, [], ◌∷◌, ◌++◌, length, replicate, set, get_or, Bool, true, false, Option, Some, None, refl, sym, ap, ◌∙◌, arith, if◌then◌else◌}
use Rattle.std.specs.Prelude.{◌==◌, ◌||◌, count_by, option_to_list}
use Rattle.std.specs.List.{list_any, filter_map}
use Rattle.std.proofs.lemmas.Bool.Decides.{nat_tests}
use Rattle.std.proofs.lemmas.List.{get_or-replicate, length-replicate, get_or_append_left, get_or-set_same, get_or-set_other}
use Rattle.std.proofs.lemmas.List.Folds.{list_any-append}
use Rattle.std.proofs.Math.Seq.{get_or-append_seam}
use Rattle.std.proofs.lemmas.List.Sums.{sum_by-cons}
use Rattle.scheme_model.specs.Includes.{Naming, is_among}
use Rattle.nesting_laws.proofs.Places.{passing}
use Rattle.text_parts.specs.Marks.{marked, Marks}

pub below_or_last : (k i : ℕ) → k < i + 1 → (k < i) ⊎ (k ≡ i)
below_or_last k i lt = go (k == i) refl
  where
    go : (b : Bool) → (k == i) ≡ b → (k < i) ⊎ (k ≡ i)
    go true e = inr (grind (arith, nat_tests))
    go false e = inl (grind (arith, nat_tests))

or_none : (a : Bool) → a ≡ (a || false)
or_none true = refl
or_none false = refl

or_all : (a : Bool) → true ≡ (a || true)
or_all true = refl
or_all false = refl

pub is_itself : (n : ℕ) → (n == n) ≡ true
is_itself n = grind (arith, nat_tests)

-- a mark that is set
pub mark_set : (bs : List Bool) (place k : ℕ) → place < length bs → get_or (set bs place true) k false ≡ (get_or bs k false || (place == k))
mark_set bs place k lt = go (place == k) refl
  where
    go : (b : Bool) → (place == k) ≡ b → get_or (set bs place true) k false ≡ (get_or bs k false || b)
    go true e =
        let same : place ≡ k = grind (arith, nat_tests) in
        ap (λ n. get_or (set bs place true) n false) (sym same) ∙ get_or-set_same bs place true false lt ∙ or_all (get_or bs k false)
    go false e = get_or-set_other bs place k true false (λ (same : k ≡ place). let no : ⊥ = grind (arith, nat_tests) in absurd no) ∙ or_none (get_or bs k false)

-- a place past the marks
pub mark_past : (bs : List Bool) (place k : ℕ) → length bs ≤ place → k < length bs → get_or bs k false ≡ (get_or bs k false || (place == k))
mark_past bs place k le lt = let other : (place == k) ≡ false = grind (arith, nat_tests) in or_none (get_or bs k false) ∙ ap (λ b. get_or bs k false || b) (sym other)

pub marked_past : (bs : List Bool) (n : ℕ) → length bs ≤ n → get_or bs n false ≡ false
marked_past [] n le = refl
marked_past (b ∷ bs) zero le = absurd (omega arith)
marked_past (b ∷ bs) (suc n) le = marked_past bs n (omega arith)

pub noted_none : (bs : List Bool) (k : ℕ) → marked bs k ≡ (marked bs k || is_among (option_to_list None) k)
noted_none bs k = or_none (marked bs k)

pub noted_some : (old new : Bool) (place k : ℕ) → new ≡ (old || (place == k)) → new ≡ (old || is_among (option_to_list (Some place)) k)
noted_some old new place k e = e ∙ ap (λ b. old || b) (or_none (place == k))

-- no mark is set yet
pub none_marked : (count : ℕ) → Marks (replicate count false) count []
none_marked count = record { size = length-replicate count false; told = λ k lt. get_or-replicate count k false false lt }

-- one mark more
pub marks_more : (f : ℕ → Bool) (xs : List Bool) (i : ℕ) (b : Bool) → length xs ≡ i → ((k : ℕ) → k < i → marked xs k ≡ f k) → b ≡ f i → (k : ℕ) → k < i + 1 → marked (xs ++ b ∷ []) k ≡ f k
marks_more f xs i b size told here k lt = at (below_or_last k i lt)
  where
    at : (k < i) ⊎ (k ≡ i) → marked (xs ++ b ∷ []) k ≡ f k
    at (inl low) = get_or_append_left xs (b ∷ []) false k (omega arith) ∙ told k low
    at (inr same) = ap (marked (xs ++ b ∷ [])) (same ∙ sym size) ∙ get_or-append_seam xs b [] false ∙ here ∙ ap f (sym same)

-- how many are marked
counted_from : {A : Type 0} (p : ℕ → Bool) (n : ℕ) (xs : List A) (bs : List Bool) → length bs ≡ length xs → ((k : ℕ) → k < length xs → marked bs k ≡ p (n + k)) → count_by (λ (b : Bool). b) bs ≡ length (passing p n xs)
counted_from p n [] [] size told = refl
counted_from p n [] (b ∷ bs) size told = absurd (omega arith)
counted_from p n (x ∷ xs) [] size told = absurd (omega arith)
counted_from {A} p n (x ∷ xs) (b ∷ bs) size told =
    let zeroth : n + 0 ≡ n = omega arith in
    let here : b ≡ p n = told 0 (omega arith) ∙ ap p zeroth in
    let rest = counted_from p (suc n) xs bs (omega arith) (λ k lt. let next : n + suc k ≡ suc n + k = omega arith in told (suc k) (omega arith) ∙ ap p next) in
    sum_by-cons (λ (c : Bool). if c then 1 else 0) b bs ∙ go b (p n) here rest
  where
    go : (b c : Bool) → b ≡ c → count_by (λ (b : Bool). b) bs ≡ length (passing p (suc n) xs) → (if b then 1 else 0) + count_by (λ (b : Bool). b) bs ≡ length (if c then n ∷ passing p (suc n) xs else passing p (suc n) xs)
    go true true e rest = omega arith
    go true false e rest = absurd cc
    go false true e rest = absurd cc
    go false false e rest = omega arith

pub counted : (all : Naming) (ns : List ℕ) (bs : List Bool) → Marks bs (length all) ns → count_by (λ (b : Bool). b) bs ≡ length (passing (is_among ns) 0 all)
counted all ns bs marks = counted_from (is_among ns) 0 all bs marks.size (λ k lt. let none : 0 + k ≡ k = omega arith in marks.told k lt ∙ ap (is_among ns) (sym none))
