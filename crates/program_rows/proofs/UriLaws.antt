-- Two stores whose uris are the same place by place have the same uris.
use Rattle.std.proofs.Common.{◌≡◌, ◌≤◌, ◌<◌, ℕ, zero, suc, List, [], ◌∷◌, length, Some, refl, arith, slice_get, subst, ◌∙◌, sym}
use Rattle.std.specs.FinMap.{entries, keys, len, len-entries}
use Rattle.std.proofs.lemmas.List.{length-map}
use Rattle.document_store.specs.Texts.{Document, Texts}

same_lists : (n : ℕ) (xs ys : List (List ℕ)) → length xs ≤ n → length ys ≤ n → ((k : ℕ) → k < n → slice_get xs k ≡ slice_get ys k) → xs ≡ ys
same_lists n [] [] a b h = refl
same_lists zero [] (y ∷ ys) a b h = absurd (omega arith)
same_lists zero (x ∷ xs) ys a b h = absurd (omega arith)
same_lists (suc n) [] (y ∷ ys) a b h = let first = h 0 (omega arith) in absurd cc
same_lists (suc n) (x ∷ xs) [] a b h = let first = h 0 (omega arith) in absurd cc
same_lists (suc n) (x ∷ xs) (y ∷ ys) a b h =
    let first : Some x ≡ Some y = h 0 (omega arith) in
    let rest : xs ≡ ys = same_lists n xs ys (omega arith) (omega arith) (λ k lt. h (suc k) (omega arith)) in
    cc

few_keys : (texts : Texts) (n : ℕ) → len texts ≤ n → length (keys texts) ≤ n
few_keys texts n h =
    let many : length (keys texts) ≡ len texts = length-map (entries texts) (λ (e : List ℕ × Document). e.0) ∙ sym (len-entries texts) in
    omega arith

pub same_keys : (n : ℕ) (one other : Texts) → len one ≤ n → len other ≤ n → ((k : ℕ) → k < n → slice_get (keys one) k ≡ slice_get (keys other) k) → keys one ≡ keys other
same_keys n one other a b h = same_lists n (keys one) (keys other) (few_keys one n a) (few_keys other n b) h
