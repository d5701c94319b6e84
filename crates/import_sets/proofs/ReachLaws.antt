-- What units import, directly or not, in as many steps as there are units, is closed: one step more adds nothing.
use Rattle.std.proofs.Common.{◌≡◌, ℕ, zero, suc, ◌<◌, ◌≤◌, Bool, true, false, cond, ◌⊎◌, inl, inr, List, [], ◌∷◌, ◌++◌, length, get_or, refl, sym, ap, ◌∙◌, subst, arith}
use Rattle.std.specs.Prelude.{◌||◌, ◌==◌}
use Rattle.std.proofs.lemmas.Bool.{eqb-true, eq-eqb, or_cases, cases_lt}
use Rattle.std.proofs.lemmas.Bool.Decides.{nat_tests}
use Rattle.scheme_model.specs.Program.{Prepared, imports_at, is_in, joined, imports_of_all, reached}

-- ---- tests

pub or_none : (a : Bool) → (a || false) ≡ a
or_none true = refl
or_none false = refl

pub or_one : (a : Bool) → (a || true) ≡ true
or_one true = refl
or_one false = refl

pub or_turned : (a b : Bool) → (a || b) ≡ (b || a)
or_turned true true = refl
or_turned true false = refl
or_turned false true = refl
or_turned false false = refl

pub or_joined : (a b c : Bool) → (a || (b || c)) ≡ ((a || b) || c)
or_joined true b c = refl
or_joined false b c = refl

pub or_left : (a b : Bool) → a ≡ true → (a || b) ≡ true
or_left a b h = ap (λ x. x || b) h

pub or_right : (a b : Bool) → b ≡ true → (a || b) ≡ true
or_right a b h = ap (λ x. a || x) h ∙ or_one a

pub same_test : (a b : Bool) → (a ≡ true → b ≡ true) → (b ≡ true → a ≡ true) → a ≡ b
same_test true b f g = sym (f refl)
same_test false true f g = g refl
same_test false false f g = refl

-- ---- members

pub in_append : (m : ℕ) (xs ys : List ℕ) → is_in m (xs ++ ys) ≡ (is_in m xs || is_in m ys)
in_append m [] ys = refl
in_append m (x ∷ xs) ys = ap (λ b. (m == x) || b) (in_append m xs ys) ∙ or_joined (m == x) (is_in m xs) (is_in m ys)

pub in_push : (m : ℕ) (xs : List ℕ) (y : ℕ) → is_in m (xs ++ y ∷ []) ≡ (is_in m xs || (m == y))
in_push m xs y = in_append m xs (y ∷ []) ∙ ap (λ b. is_in m xs || b) (or_none (m == y))

in_with : (m n : ℕ) (ms : List ℕ) → is_in m (cond (is_in n ms) ms (n ∷ ms)) ≡ (is_in m ms || (m == n))
in_with m n ms = go (is_in n ms) refl (m == n) refl
  where
    go : (b : Bool) → is_in n ms ≡ b → (c : Bool) → (m == n) ≡ c → is_in m (cond b ms (n ∷ ms)) ≡ (is_in m ms || c)
    go true p true q = ap (λ k. is_in k ms) (eqb-true m n q) ∙ p ∙ sym (or_one (is_in m ms))
    go true p false q = sym (or_none (is_in m ms))
    go false p c q = ap (λ b. b || is_in m ms) q ∙ or_turned c (is_in m ms)

pub in_joined : (m : ℕ) (ms ns : List ℕ) → is_in m (joined ms ns) ≡ (is_in m ms || is_in m ns)
in_joined m ms [] = sym (or_none (is_in m ms))
in_joined m ms (n ∷ ns) = in_joined m (cond (is_in n ms) ms (n ∷ ms)) ns ∙ ap (λ b. b || is_in m ns) (in_with m n ms) ∙ sym (or_joined (is_in m ms) (m == n) (is_in m ns))

-- ---- how many numbers below one pass a test

pub count : ℕ → (ℕ → Bool) → ℕ
count zero f = 0
count (suc n) f = cond (f n) (suc (count n f)) (count n f)

abbrev Implies : (f g : ℕ → Bool) → Type 0
Implies f g = (i : ℕ) → f i ≡ true → g i ≡ true

pub count_bound : (n : ℕ) (f : ℕ → Bool) → count n f ≤ n
unfolding count
count_bound zero f = omega arith
count_bound (suc n) f = go (f n) (count_bound n f)
  where
    go : (b : Bool) → count n f ≤ n → cond b (suc (count n f)) (count n f) ≤ suc n
    go true h = omega arith
    go false h = omega arith

pub count_le : (n : ℕ) (f g : ℕ → Bool) → Implies f g → count n f ≤ count n g
unfolding count
count_le zero f g h = omega arith
count_le (suc n) f g h = go (f n) refl (g n) refl (count_le n f g h)
  where
    go : (a : Bool) → f n ≡ a → (b : Bool) → g n ≡ b → count n f ≤ count n g → cond a (suc (count n f)) (count n f) ≤ cond b (suc (count n g)) (count n g)
    go true p true q k = omega arith
    go true p false q k = let e : false ≡ true = sym q ∙ h n p in absurd cc
    go false p true q k = omega arith
    go false p false q k = k

pub count_lt : (n : ℕ) (f g : ℕ → Bool) → Implies f g → (i : ℕ) → i < n → f i ≡ false → g i ≡ true → count n f < count n g
unfolding count
count_lt zero f g h i lt p q = absurd (omega arith)
count_lt (suc n) f g h i lt p q = go (λ l. count_lt n f g h i l p q) (f n) refl (g n) refl (count_le n f g h) (i == n) refl
  where
    below : (i n : ℕ) → i < suc n → (i == n) ≡ false → i < n
    below i n lt e = grind (arith, nat_tests)

    go : (i < n → count n f < count n g) → (a : Bool) → f n ≡ a → (b : Bool) → g n ≡ b → count n f ≤ count n g → (c : Bool) → (i == n) ≡ c → cond a (suc (count n f)) (count n f) < cond b (suc (count n g)) (count n g)
    go more a r b s k true e =
        let same : i ≡ n = eqb-true i n e in
        let no : a ≡ false = sym r ∙ ap f (sym same) ∙ p in
        let yes : b ≡ true = sym s ∙ ap g (sym same) ∙ q in
        rw (no, yes) (omega arith)
    go more true r true s k false e = let less = more (below i n lt e) in omega arith
    go more true r false s k false e = let z : false ≡ true = sym s ∙ h n r in absurd cc
    go more false r true s k false e = omega arith
    go more false r false s k false e = more (below i n lt e)

-- where no more numbers pass the wider test, the narrower one is as wide
pub count_same : (n : ℕ) (f g : ℕ → Bool) → Implies f g → count n g ≤ count n f → (i : ℕ) → i < n → g i ≡ true → f i ≡ true
count_same n f g h le i lt q = go (f i) refl
  where
    go : (b : Bool) → f i ≡ b → f i ≡ true
    go true p = p
    go false p = let less = count_lt n f g h i lt p q in absurd (omega arith)

pub count_all : (n : ℕ) (f : ℕ → Bool) → n ≤ count n f → (i : ℕ) → i < n → f i ≡ true
count_all n f h i lt = go (f i) refl
  where
    go : (b : Bool) → f i ≡ b → f i ≡ true
    go true p = p
    go false p = let less = count_lt n f (λ j. true) (λ j k. refl) i lt p refl in let bound = count_bound n (λ j. true) in absurd (omega arith)

-- ---- one step after another

pub grown : List Prepared → List ℕ → List ℕ
grown ps ns = joined ns (imports_of_all ps ns)

pub grown_keeps : (ps : List Prepared) (ns : List ℕ) (m : ℕ) → is_in m ns ≡ true → is_in m (grown ps ns) ≡ true
unfolding grown
grown_keeps ps ns m h = in_joined m ns (imports_of_all ps ns) ∙ or_left (is_in m ns) (is_in m (imports_of_all ps ns)) h

imports_there : (ps : List Prepared) (ns : List ℕ) (n m : ℕ) → is_in n ns ≡ true → is_in m (imports_at ps n) ≡ true → is_in m (imports_of_all ps ns) ≡ true
imports_there ps [] n m h k = absurd cc
imports_there ps (x ∷ ns) n m h k = in_joined m (imports_of_all ps ns) (imports_at ps x) ∙ go (λ e. imports_there ps ns n m e k) (or_cases (n == x) (is_in n ns) h)
  where
    go : (is_in n ns ≡ true → is_in m (imports_of_all ps ns) ≡ true) → ((n == x) ≡ true) ⊎ (is_in n ns ≡ true) → (is_in m (imports_of_all ps ns) || is_in m (imports_at ps x)) ≡ true
    go more (inl e) = or_right (is_in m (imports_of_all ps ns)) (is_in m (imports_at ps x)) (ap (λ y. is_in m (imports_at ps y)) (sym (eqb-true n x e)) ∙ k)
    go more (inr e) = or_left (is_in m (imports_of_all ps ns)) (is_in m (imports_at ps x)) (more e)

imports_from : (ps : List Prepared) (f : ℕ → Bool) (ns : List ℕ) → ((n m : ℕ) → is_in n ns ≡ true → is_in m (imports_at ps n) ≡ true → f m ≡ true) → (m : ℕ) → is_in m (imports_of_all ps ns) ≡ true → f m ≡ true
imports_from ps f [] h m k = absurd cc
imports_from ps f (x ∷ ns) h m k = go (imports_from ps f ns (λ n m i j. h n m (or_right (n == x) (is_in n ns) i) j) m) (or_cases (is_in m (imports_of_all ps ns)) (is_in m (imports_at ps x)) (sym (in_joined m (imports_of_all ps ns) (imports_at ps x)) ∙ k))
  where
    itself : (x == x) ≡ true
    itself = eq-eqb x x refl

    go : (is_in m (imports_of_all ps ns) ≡ true → f m ≡ true) → (is_in m (imports_of_all ps ns) ≡ true) ⊎ (is_in m (imports_at ps x) ≡ true) → f m ≡ true
    go more (inl e) = more e
    go more (inr e) = h x m (or_left (x == x) (is_in x ns) itself) e

pub grown_has : (ps : List Prepared) (ns : List ℕ) (n m : ℕ) → is_in n ns ≡ true → is_in m (imports_at ps n) ≡ true → is_in m (grown ps ns) ≡ true
unfolding grown
grown_has ps ns n m h k = in_joined m ns (imports_of_all ps ns) ∙ or_right (is_in m ns) (is_in m (imports_of_all ps ns)) (imports_there ps ns n m h k)

-- what has some units, and with each what it imports, has what one step more gives
pub grown_within : (ps : List Prepared) (f : ℕ → Bool) → ((n m : ℕ) → f n ≡ true → is_in m (imports_at ps n) ≡ true → f m ≡ true) → (ns : List ℕ) → ((m : ℕ) → is_in m ns ≡ true → f m ≡ true) →
    (m : ℕ) → is_in m (grown ps ns) ≡ true → f m ≡ true
unfolding grown
grown_within ps f closed ns h m k = go (or_cases (is_in m ns) (is_in m (imports_of_all ps ns)) (sym (in_joined m ns (imports_of_all ps ns)) ∙ k))
  where
    go : (is_in m ns ≡ true) ⊎ (is_in m (imports_of_all ps ns) ≡ true) → f m ≡ true
    go (inl e) = h m e
    go (inr e) = imports_from ps f ns (λ n m i j. closed n m (h n i) j) m e

reached_next : (ps : List Prepared) (k : ℕ) (ns : List ℕ) → reached ps (suc k) ns ≡ reached ps k (grown ps ns)
unfolding grown
reached_next ps k ns = refl

pub reached_more : (ps : List Prepared) (k : ℕ) (ns : List ℕ) → reached ps (suc k) ns ≡ grown ps (reached ps k ns)
reached_more ps zero ns = reached_next ps 0 ns
reached_more ps (suc k) ns = reached_next ps (suc k) ns ∙ reached_more ps k (grown ps ns) ∙ ap (grown ps) (sym (reached_next ps k ns))

pub reached_start : (ps : List Prepared) (k : ℕ) (ns : List ℕ) (m : ℕ) → is_in m ns ≡ true → is_in m (reached ps k ns) ≡ true
reached_start ps zero ns m h = h
reached_start ps (suc k) ns m h = ap (is_in m) (reached_next ps k ns) ∙ reached_start ps k (grown ps ns) m (grown_keeps ps ns m h)

-- what is closed has all that is reached from what it has
pub reached_within : (ps : List Prepared) (f : ℕ → Bool) → ((n m : ℕ) → f n ≡ true → is_in m (imports_at ps n) ≡ true → f m ≡ true) → (k : ℕ) (ns : List ℕ) → ((m : ℕ) → is_in m ns ≡ true → f m ≡ true) →
    (m : ℕ) → is_in m (reached ps k ns) ≡ true → f m ≡ true
reached_within ps f closed zero ns h m r = h m r
reached_within ps f closed (suc k) ns h m r = reached_within ps f closed k (grown ps ns) (grown_within ps f closed ns h) m (sym (ap (is_in m) (reached_next ps k ns)) ∙ r)

-- ---- as many steps as units

abbrev pub IsWithin : List Prepared → Type 0
IsWithin ps = (n m : ℕ) → is_in m (imports_at ps n) ≡ true → m < length ps

abbrev pub IsClosed : List Prepared → List ℕ → Type 0
IsClosed ps ns = (n m : ℕ) → is_in n ns ≡ true → is_in m (imports_at ps n) ≡ true → is_in m ns ≡ true

closed_grows : (ps : List Prepared) (ns : List ℕ) → IsClosed ps ns → IsClosed ps (grown ps ns)
closed_grows ps ns closed n m h k =
    grown_keeps ps ns m (closed n m (grown_within ps (λ i. is_in i ns) closed ns (λ i j. j) n h) k)

saturated : (ps : List Prepared) → IsWithin ps → (ns : List ℕ) (k : ℕ) → IsClosed ps (reached ps k ns) ⊎ (k ≤ count (length ps) (λ i. is_in i (reached ps k ns)))
saturated ps within ns zero = inr (omega arith)
saturated ps within ns (suc k) =
    subst (λ (xs : List ℕ). IsClosed ps xs ⊎ (suc k ≤ count (length ps) (λ i. is_in i xs))) (sym (reached_more ps k ns)) (go (saturated ps within ns k))
  where
    go : IsClosed ps (reached ps k ns) ⊎ (k ≤ count (length ps) (λ i. is_in i (reached ps k ns))) →
        IsClosed ps (grown ps (reached ps k ns)) ⊎ (suc k ≤ count (length ps) (λ i. is_in i (grown ps (reached ps k ns))))
    go (inl closed) = inl (closed_grows ps (reached ps k ns) closed)
    go (inr le) = by (cases_lt (count (length ps) (λ i. is_in i (reached ps k ns))) (count (length ps) (λ i. is_in i (grown ps (reached ps k ns)))))
      where
        by : (count (length ps) (λ i. is_in i (reached ps k ns)) < count (length ps) (λ i. is_in i (grown ps (reached ps k ns)))) ⊎ (count (length ps) (λ i. is_in i (grown ps (reached ps k ns))) ≤ count (length ps) (λ i. is_in i (reached ps k ns))) →
            IsClosed ps (grown ps (reached ps k ns)) ⊎ (suc k ≤ count (length ps) (λ i. is_in i (grown ps (reached ps k ns))))
        by (inl lt) = inr (omega arith)
        by (inr ge) =
            inl (closed_grows ps (reached ps k ns) (λ n m h i.
            count_same (length ps) (λ i. is_in i (reached ps k ns)) (λ i. is_in i (grown ps (reached ps k ns))) (grown_keeps ps (reached ps k ns)) ge m (within n m i) (grown_has ps (reached ps k ns) n m h i)))

pub reached_closed : (ps : List Prepared) → IsWithin ps → (ns : List ℕ) → IsClosed ps (reached ps (length ps) ns)
reached_closed ps within ns = go (saturated ps within ns (length ps))
  where
    go : IsClosed ps (reached ps (length ps) ns) ⊎ (length ps ≤ count (length ps) (λ i. is_in i (reached ps (length ps) ns))) → IsClosed ps (reached ps (length ps) ns)
    go (inl closed) = closed
    go (inr le) = λ n m h i. count_all (length ps) (λ i. is_in i (reached ps (length ps) ns)) le m (within n m i)

-- what stands at a place is a member
pub in_at : (xs : List ℕ) (i : ℕ) → i < length xs → is_in (get_or xs i 0) xs ≡ true
in_at [] i lt = absurd (omega arith)
in_at (x ∷ xs) zero lt = or_left (x == x) (is_in x xs) (eq-eqb x x refl)
in_at (x ∷ xs) (suc i) lt = or_right (get_or xs i 0 == x) (is_in (get_or xs i 0) xs) (in_at xs i (omega arith))
