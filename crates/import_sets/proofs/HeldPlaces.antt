-- Sets of places, and lists of the same places.
use Rattle.std.proofs.Common.{◌≡◌, ℕ, ◌+◌, ◌<◌, Bool, true, false, cond, ◌⊎◌, inl, inr, List, [], ◌∷◌, ◌++◌, length, take, get_or, refl, sym, ap, ◌∙◌, arith}
use Rattle.std.specs.Prelude.{◌||◌, ◌==◌}
use Rattle.std.specs.Ordering.{nat_cmp, is_eq}
use Rattle.std.proofs.lemmas.Bool.{eqb-true, or_cases}
use Rattle.std.proofs.lemmas.Bool.Decides.{nat_tests}
use Rattle.std.proofs.lemmas.List.{take_more, get_or_default}
use Rattle.scheme_model.specs.Program.{is_in}
use Rattle.import_sets.specs.Graphs.{row}
use Rattle.import_sets.specs.Waiting.{Places, has, HasAllBelow}
use Rattle.import_sets.proofs.ReachLaws.{or_none, or_one, or_joined, in_push}

numbers_equal : (a b : ℕ) → is_eq (nat_cmp a b) ≡ (b == a)
numbers_equal a b = grind (arith, nat_tests)

or_of : (b x : Bool) → cond b true x ≡ (x || b)
or_of true true = refl
or_of true false = refl
or_of false true = refl
or_of false false = refl

-- a set has one more
pub has_more : (p n : ℕ) (old new : Bool) → new ≡ cond (is_eq (nat_cmp p n)) true old → new ≡ (old || (n == p))
has_more p n old new e = e ∙ ap (λ b. cond b true old) (numbers_equal p n) ∙ or_of (n == p) old

pub has_pushed : (p n : ℕ) (all : List ℕ) (old new : Bool) → old ≡ is_in n all → new ≡ cond (is_eq (nat_cmp p n)) true old → new ≡ is_in n (all ++ p ∷ [])
has_pushed p n all old new h e = has_more p n old new e ∙ ap (λ b. b || (n == p)) h ∙ sym (in_push n all p)

-- a place that is there already
pub there_already : (p n : ℕ) (all : List ℕ) → is_in p all ≡ true → is_in n all ≡ (is_in n all || (n == p))
there_already p n all h = go (n == p) refl
  where
    go : (b : Bool) → (n == p) ≡ b → is_in n all ≡ (is_in n all || b)
    go true e = ap (λ k. is_in k all) (eqb-true n p e) ∙ h ∙ sym (or_one (is_in n all))
    go false e = sym (or_none (is_in n all))

-- a set has the places of a list, one more of them
pub has_next : (ps : List ℕ) (i n : ℕ) (first old new : Bool) → i < length ps → old ≡ (first || is_in n (take i ps)) → new ≡ cond (is_eq (nat_cmp (get_or ps i 0) n)) true old → new ≡ (first || is_in n (take (i + 1) ps))
has_next ps i n first old new lt o e =
    has_more (get_or ps i 0) n old new e ∙ ap (λ b. b || (n == get_or ps i 0)) o ∙ sym (or_joined first (is_in n (take i ps)) (n == get_or ps i 0))
    ∙ ap (λ b. first || b) (sym (in_push n (take i ps) (get_or ps i 0)) ∙ ap (is_in n) (sym (take_more ps i 0 lt)))

-- all below one more
pub below_next : (k : ℕ) (old new : Places) → HasAllBelow k old → ((n : ℕ) → has new n ≡ cond (is_eq (nat_cmp k n)) true (has old n)) → HasAllBelow (k + 1) new
below_next k old new h e = record {
  all = λ n lt. now n ∙ go n lt (n == k) refl;
  others = λ n i. by n (or_cases (has old n) (n == k) (sym (now n) ∙ i));
}
  where
    now : (n : ℕ) → has new n ≡ (has old n || (n == k))
    now n = has_more k n (has old n) (has new n) (e n)

    less : (n : ℕ) → n < k + 1 → (n == k) ≡ false → n < k
    less n lt i = grind (arith, nat_tests)

    go : (n : ℕ) → n < k + 1 → (b : Bool) → (n == k) ≡ b → (has old n || (n == k)) ≡ true
    go n lt true i = ap (λ b. has old n || b) i ∙ or_one (has old n)
    go n lt false i = ap (λ b. b || (n == k)) (h.all n (less n lt i))

    by : (n : ℕ) → (has old n ≡ true) ⊎ ((n == k) ≡ true) → n < k + 1
    by n (inl i) = let lt = h.others n i in omega arith
    by n (inr i) = let same = eqb-true n k i in omega arith

pub below_none : (s : Places) → ((n : ℕ) → has s n ≡ false) → HasAllBelow 0 s
below_none s none = record { all = λ n lt. absurd (omega arith); others = λ n i. let e : false ≡ true = sym (none n) ∙ i in absurd cc }

pub row_read : (g : List (List ℕ)) (n : ℕ) (r s : List ℕ) → n < length g → s ≡ r → r ≡ get_or g n r → s ≡ row g n
row_read g n r s lt e is = e ∙ is ∙ get_or_default g n r [] lt
