-- The folder of a path ends at its last slash.
use Rattle.std.proofs.Common.{◌≡◌, ◌≢◌, ℕ, zero, suc, ◌+◌, ◌<◌, true, false, cond, List, [], ◌∷◌, ◌++◌, length, take, get_or, refl, sym, ap, ◌∙◌, arith}
use Rattle.std.specs.Prelude.{◌==◌, ◌||◌}
use Rattle.std.proofs.lemmas.List.{append-nil}
use Rattle.std.specs.List.{list_any, slice_range}
use Rattle.std.proofs.lemmas.Bool.Decides.{nat_tests}
use Rattle.std.proofs.lemmas.List.Folds.{list_any_at}
use Rattle.included_documents.specs.Meant.{slash, folder, path_from}

is_slash : (b : ℕ) → b ≡ 47 → (b == slash) ≡ true
is_slash b e = grind (arith, nat_tests)

is_other : (b : ℕ) → b ≢ 47 → (b == slash) ≡ false
is_other b e = grind (arith, nat_tests)

none : (bs : List ℕ) → ((i : ℕ) → i < length bs → get_or bs i 0 ≢ 47) → list_any (λ c. c == slash) bs ≡ false
none [] h = refl
none (b ∷ bs) h =
    let later : (i : ℕ) → i < length bs → get_or bs i 0 ≢ 47 = λ i lt. h (suc i) (omega arith) in
    ap (λ t. t || list_any (λ c. c == slash) bs) (is_other b (h 0 (omega arith))) ∙ none bs later

-- without a slash there is none
pub no_folder : (bs : List ℕ) → ((i : ℕ) → i < length bs → get_or bs i 0 ≢ 47) → folder bs ≡ []
no_folder [] h = refl
no_folder (b ∷ bs) h = ap (λ t. cond t (b ∷ folder bs) []) (none (b ∷ bs) h)

up_to : (bs : List ℕ) (k : ℕ) → k < length bs → get_or bs k 0 ≡ 47 → ((i : ℕ) → k < i → i < length bs → get_or bs i 0 ≢ 47) → folder bs ≡ take (suc k) bs
up_to [] k lt here later = absurd (omega arith)
up_to (b ∷ bs) zero lt here later =
    ap (λ t. cond t (b ∷ folder bs) []) (list_any_at (λ c. c == slash) (b ∷ bs) zero 0 lt (is_slash (get_or (b ∷ bs) zero 0) here))
    ∙ ap (λ cs. b ∷ cs) (no_folder bs (λ i small. later (suc i) (omega arith) (omega arith)))
up_to (b ∷ bs) (suc k) lt here later =
    ap (λ t. cond t (b ∷ folder bs) []) (list_any_at (λ c. c == slash) (b ∷ bs) (suc k) 0 lt (is_slash (get_or (b ∷ bs) (suc k) 0) here))
    ∙ ap (λ cs. b ∷ cs) (up_to bs k (omega arith) here (λ i behind small. later (suc i) (omega arith) (omega arith)))

front : (bs : List ℕ) (n : ℕ) → slice_range bs 0 n ≡ take n bs
front bs n = grind arith

-- up to and with the last slash
pub folder_to : (bs : List ℕ) (k : ℕ) → k < length bs → get_or bs k 0 ≡ 47 → ((i : ℕ) → k < i → i < length bs → get_or bs i 0 ≢ 47) → slice_range bs 0 (k + 1) ≡ folder bs
folder_to bs k lt here later = let e : k + 1 ≡ suc k = omega arith in front bs (k + 1) ∙ ap (λ n. take n bs) e ∙ sym (up_to bs k lt here later)

-- a path that begins with a slash, and any other
pub path_at_root : (uri path : List ℕ) → get_or path 0 0 ≡ 47 → path ≡ path_from uri path
path_at_root uri [] e = absurd (omega arith)
path_at_root uri (b ∷ bs) e = sym (ap (λ t. cond t (b ∷ bs) (folder uri ++ b ∷ bs)) (is_slash b e))

pub path_in_folder : (uri path : List ℕ) → get_or path 0 0 ≢ 47 → folder uri ++ path ≡ path_from uri path
path_in_folder uri [] e = append-nil (folder uri)
path_in_folder uri (b ∷ bs) e = sym (ap (λ t. cond t (b ∷ bs) (folder uri ++ b ∷ bs)) (is_other b e))
