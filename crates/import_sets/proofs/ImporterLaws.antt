-- For each unit those that import it.
use Rattle.std.proofs.Common.{◌≡◌, ℕ, ◌+◌, ◌<◌, ◌≤◌, Bool, true, false, ◌⊎◌, inl, inr, List, [], ◌∷◌, ◌++◌, length, slice_set, refl, sym, ap, ◌∙◌, arith}
use Rattle.std.specs.Prelude.{◌||◌, ◌&&◌, ◌==◌}
use Rattle.std.proofs.lemmas.Bool.{eqb-true, eq-eqb, or_cases, and_parts, cases_lt}
use Rattle.std.proofs.lemmas.Bool.Decides.{nat_tests}
use Rattle.std.proofs.lemmas.List.{length-set, get_or-set_same, get_or-set_other, get_or_past}
use Rattle.scheme_model.specs.Program.{is_in}
use Rattle.import_sets.specs.Graphs.{row, AreWithin, add_one, add_to, AreImporters}
use Rattle.import_sets.proofs.ReachLaws.{or_none, or_left, or_right, in_push}

abbrev AllBelow : List ℕ → ℕ → Type 0
AllBelow ps n = (p : ℕ) → is_in p ps ≡ true → p < n

-- ---- one unit more

one_more : (h : List (List ℕ)) (n p x m : ℕ) → p < length h → is_in x (row (add_one h n p) m) ≡ (is_in x (row h m) || ((x == n) && (m == p)))
one_more h n p x m lt = go (m == p) refl
  where
    nothing : (b : Bool) → (b && false) ≡ false
    nothing true = refl
    nothing false = refl

    itself : (b : Bool) → (b && true) ≡ b
    itself true = refl
    itself false = refl

    apart : (m == p) ≡ false → m ≡ p → ⊥
    apart e k = let z : false ≡ true = sym e ∙ eq-eqb m p k in absurd cc

    go : (b : Bool) → (m == p) ≡ b → is_in x (row (slice_set h p (row h p ++ n ∷ [])) m) ≡ (is_in x (row h m) || ((x == n) && b))
    go true e =
        ap (λ k. is_in x (row (slice_set h p (row h p ++ n ∷ [])) k)) (eqb-true m p e) ∙ ap (is_in x) (get_or-set_same h p (row h p ++ n ∷ []) [] lt) ∙ in_push x (row h p) n
        ∙ ap (λ b. is_in x (row h p) || b) (sym (itself (x == n))) ∙ ap (λ k. is_in x (row h k) || ((x == n) && true)) (sym (eqb-true m p e))
    go false e = ap (is_in x) (get_or-set_other h p m (row h p ++ n ∷ []) [] (apart e)) ∙ sym (ap (λ b. is_in x (row h m) || b) (nothing (x == n)) ∙ or_none (is_in x (row h m)))

pub one_size : (h : List (List ℕ)) (n p : ℕ) → length (add_one h n p) ≡ length h
one_size h n p = length-set h p (row h p ++ n ∷ [])

two_tests : (a e f g : Bool) → ((a || (e && f)) || (e && g)) ≡ (a || (e && (f || g)))
two_tests true e f g = refl
two_tests false true f g = refl
two_tests false false f g = refl

all_more : (h : List (List ℕ)) (n : ℕ) (ps : List ℕ) (x m : ℕ) → AllBelow ps (length h) → is_in x (row (add_to h n ps) m) ≡ (is_in x (row h m) || ((x == n) && is_in m ps))
all_more h n [] x m below = sym (ap (λ b. is_in x (row h m) || b) (nothing (x == n)) ∙ or_none (is_in x (row h m)))
  where
    nothing : (b : Bool) → (b && false) ≡ false
    nothing true = refl
    nothing false = refl
all_more h n (p ∷ ps) x m below =
    all_more (add_one h n p) n ps x m (λ q i. let lt = below q (or_right (q == p) (is_in q ps) i) in let e = one_size h n p in omega arith)
    ∙ ap (λ b. b || ((x == n) && is_in m ps)) (one_more h n p x m (below p (or_left (p == p) (is_in p ps) (eq-eqb p p refl))))
    ∙ two_tests (is_in x (row h m)) (x == n) (m == p) (is_in m ps)

pub all_size : (h : List (List ℕ)) (n : ℕ) (ps : List ℕ) → length (add_to h n ps) ≡ length h
all_size h n [] = refl
all_size h n (p ∷ ps) = all_size (add_one h n p) n ps ∙ one_size h n p

-- ---- the units below one

pub record AreImportersBelow (g h : List (List ℕ)) (k : ℕ) : Type 0 where
  pub size : length h ≡ length g
  pub all : (n m : ℕ) → n < k → is_in m (row g n) ≡ true → is_in n (row h m) ≡ true
  pub within : (m n : ℕ) → is_in n (row h m) ≡ true → n < length g

pub importers_none : (g h : List (List ℕ)) → length h ≡ length g → ((n : ℕ) → row h n ≡ []) → AreImportersBelow g h 0
importers_none g h size empty = record {
  size = size;
  all = λ n m lt i. absurd (omega arith);
  within = λ m n i. let z : false ≡ true = sym (ap (is_in n) (empty m)) ∙ i in absurd cc;
}

pub importers_more : (g h : List (List ℕ)) (k : ℕ) → AreWithin g → k < length g → AreImportersBelow g h k → AreImportersBelow g (add_to h k (row g k)) (k + 1)
importers_more g h k inside lt a = record {
  size = all_size h k (row g k) ∙ a.size;
  all = λ n m l i. here n m ∙ go n m l i (n == k) refl;
  within = λ m n i. by m n (or_cases (is_in n (row h m)) ((n == k) && is_in m (row g k)) (sym (here n m) ∙ i));
}
  where
    here : (n m : ℕ) → is_in n (row (add_to h k (row g k)) m) ≡ (is_in n (row h m) || ((n == k) && is_in m (row g k)))
    here n m = all_more h k (row g k) n m (λ p i. let lt = inside k p i in let e = a.size in omega arith)

    less : (n : ℕ) → n < k + 1 → (n == k) ≡ false → n < k
    less n l e = grind (arith, nat_tests)

    go : (n m : ℕ) → n < k + 1 → is_in m (row g n) ≡ true → (b : Bool) → (n == k) ≡ b → (is_in n (row h m) || ((n == k) && is_in m (row g k))) ≡ true
    go n m l i true e = or_right (is_in n (row h m)) ((n == k) && is_in m (row g k)) ((λ j. e j && (ap (λ x. is_in m (row g x)) (sym (eqb-true n k e)) ∙ i) j))
    go n m l i false e = or_left (is_in n (row h m)) ((n == k) && is_in m (row g k)) (a.all n m (less n l e) i)

    by : (m n : ℕ) → (is_in n (row h m) ≡ true) ⊎ (((n == k) && is_in m (row g k)) ≡ true) → n < length g
    by m n (inl i) = a.within m n i
    by m n (inr i) = let same = eqb-true n k (and_parts (n == k) (is_in m (row g k)) i).0 in omega arith

pub importers_all : (g h : List (List ℕ)) → AreImportersBelow g h (length g) → AreImporters g h
importers_all g h a = record {
  size = a.size;
  all = λ n m i. go n m i (cases_lt n (length g));
  within = a.within;
}
  where
    go : (n m : ℕ) → is_in m (row g n) ≡ true → (n < length g) ⊎ (length g ≤ n) → is_in n (row h m) ≡ true
    go n m i (inl lt) = a.all n m lt i
    go n m i (inr le) = let z : false ≡ true = sym (ap (is_in m) (get_or_past g n [] le)) ∙ i in absurd cc
