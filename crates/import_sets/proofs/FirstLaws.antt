-- The first place of each name, one more of them.
use Rattle.std.proofs.Common.{◌≡◌, ℕ, suc, ◌+◌, Bool, true, false, cond, ◌<◌, List, [], ◌∷◌, ◌++◌, length, take, get_or, Option, Some, None, refl, sym, ap, ◌∙◌, arith}
use Rattle.std.specs.Option.{is_some}
use Rattle.std.proofs.lemmas.List.{take_more, length-take-le}
use Rattle.std.specs.Str.{bytes_eq}
use Rattle.syntax_tree.proofs.InternLaws.{bytes_told}
use Rattle.import_sets.specs.Firsts.{first_of, place_if, first_place}

-- ---- the first that passes a test, one more of them

first_or_later : (b : Bool) (k : ℕ) (o p : Option ℕ) → cond b (Some k) (first_of o p) ≡ first_of (cond b (Some k) o) p
first_or_later true k o p = refl
first_or_later false k o p = refl

first_push : {A : Type 0} (test : A → Bool) (k : ℕ) (xs : List A) (x : A) → first_place test k (xs ++ x ∷ []) ≡ first_of (first_place test k xs) (place_if (test x) (k + length xs))
first_push test k [] x = ap (place_if (test x)) (plus_none k)
  where
    plus_none : (k : ℕ) → k ≡ k + 0
    plus_none k = omega arith
first_push test k (y ∷ xs) x =
    ap (cond (test y) (Some k)) (first_push test (suc k) xs x ∙ ap (λ n. first_of (first_place test (suc k) xs) (place_if (test x) n)) (plus_one k (length xs)))
    ∙ first_or_later (test y) k (first_place test (suc k) xs) (place_if (test x) (k + suc (length xs)))
  where
    plus_one : (k n : ℕ) → suc k + n ≡ k + suc n
    plus_one k n = omega arith

-- a name that is known, or is new
pub known_first : (find : List ℕ → Option ℕ) (t s : List ℕ) (p : ℕ) → is_some (find t) ≡ true → find s ≡ first_of (find s) (place_if (bytes_eq t s) p)
known_first find t s p h = go (bytes_eq t s) refl (find s) refl
  where
    go : (b : Bool) → bytes_eq t s ≡ b → (o : Option ℕ) → find s ≡ o → o ≡ first_of o (place_if b p)
    go b e (Some n) q = refl
    go false e None q = refl
    go true e None q = let z : false ≡ true = sym (ap is_some (ap find (bytes_told t s e) ∙ q)) ∙ h in absurd cc

pub new_first : (find : List ℕ → Option ℕ) (t s : List ℕ) (p : ℕ) → is_some (find t) ≡ false → cond (bytes_eq t s) (Some p) (find s) ≡ first_of (find s) (place_if (bytes_eq t s) p)
new_first find t s p h = go (bytes_eq t s) refl (find s) refl
  where
    go : (b : Bool) → bytes_eq t s ≡ b → (o : Option ℕ) → find s ≡ o → cond b (Some p) o ≡ first_of o (place_if b p)
    go true e None q = refl
    go false e None q = refl
    go false e (Some n) q = refl
    go true e (Some n) q = let z : true ≡ false = sym (ap is_some (ap find (bytes_told t s e) ∙ q)) ∙ h in absurd cc

-- one more of them
pub first_step : {A : Type 0} (test : A → Bool) (xs : List A) (i : ℕ) (x : A) (old new : Option ℕ) → i < length xs → x ≡ get_or xs i x → old ≡ first_place test 0 (take i xs) →
    new ≡ first_of old (place_if (test x) i) → new ≡ first_place test 0 (take (i + 1) xs)
first_step {A} test xs i x old new lt is o n =
    n ∙ (λ j. first_of (o j) (place_if (test x) (size j))) ∙ sym (first_push test 0 (take i xs) x)
    ∙ ap (λ (y : A). first_place test 0 (take i xs ++ y ∷ [])) is ∙ ap (first_place test 0) (sym (take_more xs i x lt))
  where
    size : i ≡ 0 + length (take i xs)
    size = let e = length-take-le i xs (omega arith) in omega arith
