-- The places of a list that pass a test, in order: which they are, and how many.
use Rattle.std.proofs.Common.{◌≡◌, ◌⊎◌, inl, inr, ℕ, suc, ◌+◌, ◌≤◌, ◌<◌, List, [], ◌∷◌, length, Bool, true, false, refl, sym, ap, ◌∙◌, true≢false, subst, arith, if◌then◌else◌}
use Rattle.std.specs.Prelude.{◌==◌, ◌||◌}
use Rattle.std.proofs.lemmas.Bool.Decides.{nat_tests}
use Rattle.scheme_model.specs.Includes.{is_among}

abbrev pub Is : Bool → Type 0
Is b = b ≡ true

pub never : {X : Type 0} → false ≡ true → X
never h = elim (true≢false (sym h)) [ ]

pub or_true : (a b : Bool) → Is (a || b) → Is a ⊎ Is b
or_true true b h = inl refl
or_true false b h = inr h

pub or_left : (a b : Bool) → Is a → Is (a || b)
or_left true b h = refl
or_left false b h = never h

pub or_right : (a b : Bool) → Is b → Is (a || b)
or_right true b h = refl
or_right false b h = h

-- what is true of one is true of the other
pub both_ways : (a b : Bool) → (Is a → Is b) → (Is b → Is a) → a ≡ b
both_ways true b h k = sym (h refl)
both_ways false true h k = k refl
both_ways false false h k = refl

pub same_number : (n m : ℕ) → Is (n == m) → n ≡ m
same_number n m h = grind (arith, nat_tests)

pub same_itself : (n : ℕ) → Is (n == n)
same_itself n = grind (arith, nat_tests)

other_number : (n m : ℕ) → n < m → (n == m) ≡ false
other_number n m h = grind (arith, nat_tests)

-- ---- places that pass

abbrev pub passing : {A : Type 0} → (ℕ → Bool) → ℕ → List A → List ℕ
passing p n [] = []
passing p n (x ∷ xs) = if p n then n ∷ passing p (suc n) xs else passing p (suc n) xs

-- a place that passes is among them
pub among_passing : {A : Type 0} (p : ℕ → Bool) (n : ℕ) (xs : List A) (k : ℕ) → n ≤ k → k < n + length xs → Is (p k) → Is (is_among (passing p n xs) k)
among_passing p n [] k le lt h = absurd (omega arith)
among_passing {A} p n (x ∷ xs) k le lt h = go (p n) refl (n == k) refl (λ q. among_passing p (suc n) xs k q (omega arith) h)
  where
    later : (n == k) ≡ false → suc n ≤ k
    later f = grind (arith, nat_tests)

    go : (a : Bool) → p n ≡ a → (b : Bool) → (n == k) ≡ b → (suc n ≤ k → Is (is_among (passing p (suc n) xs) k)) → Is (is_among (if a then n ∷ passing p (suc n) xs else passing p (suc n) xs) k)
    go true e true f ih = or_left (n == k) (is_among (passing p (suc n) xs) k) f
    go true e false f ih = or_right (n == k) (is_among (passing p (suc n) xs) k) (ih (later f))
    go false e true f ih = never (sym e ∙ ap p (same_number n k f) ∙ h)
    go false e false f ih = ih (later f)

abbrev IsPassing : {A : Type 0} → (ℕ → Bool) → ℕ → List A → ℕ → Type 0
IsPassing p n xs k = (n ≤ k) × (k < n + length xs) × Is (p k)

-- and those among them pass
pub passing_among : {A : Type 0} (p : ℕ → Bool) (n : ℕ) (xs : List A) (k : ℕ) → Is (is_among (passing p n xs) k) → (n ≤ k) × (k < n + length xs) × Is (p k)
passing_among p n [] k h = never h
passing_among {A} p n (x ∷ xs) k h = go (p n) refl h (passing_among p (suc n) xs k)
  where
    behind : IsPassing p (suc n) xs k → IsPassing p n (x ∷ xs) k
    behind w = (omega (arith, w.0), omega (arith, w.1), w.2)

    first : Is (p n) → n ≡ k → IsPassing p n (x ∷ xs) k
    first e f = (omega arith, omega arith, subst (λ (i : ℕ). Is (p i)) f e)

    go : (a : Bool) → p n ≡ a → Is (is_among (if a then n ∷ passing p (suc n) xs else passing p (suc n) xs) k) → (Is (is_among (passing p (suc n) xs) k) → IsPassing p (suc n) xs k) → IsPassing p n (x ∷ xs) k
    go true e h ih = at (or_true (n == k) (is_among (passing p (suc n) xs) k) h)
      where
        at : Is (n == k) ⊎ Is (is_among (passing p (suc n) xs) k) → IsPassing p n (x ∷ xs) k
        at (inl f) = first e (same_number n k f)
        at (inr f) = behind (ih f)
    go false e h ih = behind (ih h)

-- ---- how many

abbrev put : Bool → ℕ → ℕ
put b n = if b then suc n else n

length_passing : {A : Type 0} (p : ℕ → Bool) (n : ℕ) (x : A) (xs : List A) → length (passing p n (x ∷ xs)) ≡ put (p n) (length (passing p (suc n) xs))
length_passing {A} p n x xs = go (p n)
  where
    go : (b : Bool) → length (if b then n ∷ passing p (suc n) xs else passing p (suc n) xs) ≡ put b (length (passing p (suc n) xs))
    go true = refl
    go false = refl

more_by : (a b : Bool) (m n : ℕ) → (Is a → Is b) → m ≤ n → put a m ≤ put b n
more_by true true m n h le = omega arith
more_by true false m n h le = never (h refl)
more_by false true m n h le = omega arith
more_by false false m n h le = le

-- whoever passes one test passes the other
pub no_fewer : {A : Type 0} (p q : ℕ → Bool) (n : ℕ) (xs : List A) → ((k : ℕ) → n ≤ k → k < n + length xs → Is (p k) → Is (q k)) → length (passing p n xs) ≤ length (passing q n xs)
no_fewer p q n [] h = omega arith
no_fewer p q n (x ∷ xs) h =
    let rest = no_fewer p q (suc n) xs (λ k le lt. h k (omega arith) (omega arith)) in
    let here = more_by (p n) (q n) (length (passing p (suc n) xs)) (length (passing q (suc n) xs)) (h n (omega arith) (omega arith)) rest in
    omega (arith, length_passing p n x xs, length_passing q n x xs)

less_by : (a b : Bool) (m n : ℕ) → a ≡ false → Is b → m ≤ n → put a m < put b n
less_by true b m n e h le = never (sym e)
less_by false true m n e h le = omega arith
less_by false false m n e h le = never h

still_less : (a b : Bool) (m n : ℕ) → (Is a → Is b) → m < n → put a m < put b n
still_less true true m n h lt = omega arith
still_less true false m n h lt = never (h refl)
still_less false true m n h lt = omega arith
still_less false false m n h lt = lt

-- and a place passes the other alone
pub fewer : {A : Type 0} (p q : ℕ → Bool) (n : ℕ) (xs : List A) (k : ℕ) → ((k : ℕ) → n ≤ k → k < n + length xs → Is (p k) → Is (q k)) → n ≤ k → k < n + length xs → p k ≡ false → Is (q k) →
    length (passing p n xs) < length (passing q n xs)
fewer p q n [] k h le lt out found = absurd (omega arith)
fewer {A} p q n (x ∷ xs) k h le lt out found = go (n == k) refl (λ later. fewer p q (suc n) xs k (λ j le lt. h j (omega arith) (omega arith)) later (omega arith) out found)
  where
    later : (n == k) ≡ false → suc n ≤ k
    later f = grind (arith, nat_tests)

    go : (b : Bool) → (n == k) ≡ b → (suc n ≤ k → length (passing p (suc n) xs) < length (passing q (suc n) xs)) → length (passing p n (x ∷ xs)) < length (passing q n (x ∷ xs))
    go true e ih =
        let same = same_number n k e in
        let rest = no_fewer p q (suc n) xs (λ j le lt. h j (omega arith) (omega arith)) in
        let here = less_by (p n) (q n) (length (passing p (suc n) xs)) (length (passing q (suc n) xs)) (ap p same ∙ out) (ap q same ∙ found) rest in
        omega (arith, length_passing p n x xs, length_passing q n x xs)
    go false e ih =
        let here = still_less (p n) (q n) (length (passing p (suc n) xs)) (length (passing q (suc n) xs)) (h n (omega arith) (omega arith)) (ih (later e)) in
        omega (arith, length_passing p n x xs, length_passing q n x xs)

all_pass : {A : Type 0} (n : ℕ) (xs : List A) → length (passing (λ k. true) n xs) ≡ length xs
all_pass n [] = refl
all_pass n (x ∷ xs) = ap (λ m. suc m) (all_pass (suc n) xs)

pub at_most : {A : Type 0} (p : ℕ → Bool) (n : ℕ) (xs : List A) → length (passing p n xs) ≤ length xs
at_most p n xs = let le = no_fewer p (λ k. true) n xs (λ k le lt h. refl) in omega (arith, all_pass n xs)

-- where a place doesn't pass they aren't all
pub not_all : {A : Type 0} (p : ℕ → Bool) (n : ℕ) (xs : List A) (k : ℕ) → n ≤ k → k < n + length xs → p k ≡ false → length (passing p n xs) < length xs
not_all p n xs k le lt out = let few = fewer p (λ k. true) n xs k (λ k le lt h. refl) le lt out refl in omega (arith, all_pass n xs)

-- tests that agree
pub passing_alike : {A : Type 0} (p q : ℕ → Bool) (n : ℕ) (xs : List A) → ((k : ℕ) → n ≤ k → k < n + length xs → p k ≡ q k) → passing p n xs ≡ passing q n xs
passing_alike p q n [] h = refl
passing_alike p q n (x ∷ xs) h =
    let rest = passing_alike p q (suc n) xs (λ k le lt. h k (omega arith) (omega arith)) in
    let here = h n (omega arith) (omega arith) in
    λ j. if here j then n ∷ rest j else rest j
