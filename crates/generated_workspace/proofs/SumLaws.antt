-- Sums along a list.
use Rattle.std.proofs.Common.{◌≡◌, ◌<◌, ◌≤◌, ◌+◌, ℕ, List, length, get_or, take, sym, ap, ◌∙◌, arith}
use Rattle.std.specs.List.{sum_by}
use Rattle.std.proofs.lemmas.List.Sums.{sum_by_more}
use Rattle.read_documents.proofs.Nths.{take_all}

-- with one more
pub sum_more : {X : Type 0} (f : X → ℕ) (xs : List X) (n : ℕ) (x : X) (total next : ℕ) → n < length xs → x ≡ get_or xs n x → total ≡ sum_by f (take n xs) → next ≡ total + f x → next ≡ sum_by f (take (n + 1) xs)
sum_more f xs n x total next below is so more = more ∙ (λ i. so i + f (is i)) ∙ sym (sum_by_more f xs n x below)

pub sum_more_behind : {X : Type 0} (f : X → ℕ) (xs : List X) (n : ℕ) (x : X) (start total next : ℕ) → n < length xs → x ≡ get_or xs n x → total ≡ start + sum_by f (take n xs) → next ≡ total + f x → next ≡ start + sum_by f (take (n + 1) xs)
sum_more_behind f xs n x start total next below is so more =
    let step : sum_by f (take (n + 1) xs) ≡ sum_by f (take n xs) + f x = sum_by_more f xs n x below ∙ ap (λ y. sum_by f (take n xs) + f y) (sym is) in omega arith

-- and of all
pub sum_whole : {X : Type 0} (f : X → ℕ) (xs : List X) (n total : ℕ) → length xs ≤ n → total ≡ sum_by f (take n xs) → total ≡ sum_by f xs
sum_whole f xs n total over so = so ∙ ap (sum_by f) (take_all xs n over)

pub sum_whole_behind : {X : Type 0} (f : X → ℕ) (xs : List X) (n start total : ℕ) → length xs ≤ n → total ≡ start + sum_by f (take n xs) → total ≡ start + sum_by f xs
sum_whole_behind f xs n start total over so = so ∙ ap (λ ys. start + sum_by f ys) (take_all xs n over)
