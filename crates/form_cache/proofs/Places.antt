-- Entries by unit and form, where one is put or taken out.
use Rattle.std.proofs.Common.{◌≡◌, ◌≢◌, ℕ, zero, suc, ◌<◌, ◌≤◌, Bool, true, false, ◌&&◌, cond, List, [], ◌∷◌, ◌++◌, length, nat_eq, slice_get, slice_set, Vec, Option, Some, None, if◌then◌else◌, refl, sym, ap, ◌∙◌, subst, arith, length-set}
use Rattle.std.specs.declared.alloc.Global.{Global}
use Rattle.std.specs.Vec.{with_item}
use Rattle.std.proofs.lemmas.Bool.{eqb-true}
use Rattle.form_cache.specs.declared.entries.Entry.{Entry}
use Rattle.form_cache.specs.Cached.{items_if, entries_at, entry_if}

pub at_same : {X : Type 0} (xs : List X) (i : ℕ) (x : X) → i < length xs → slice_get (slice_set xs i x) i ≡ Some x
at_same [] i x h = absurd (omega arith)
at_same (y ∷ ys) zero x h = refl
at_same (y ∷ ys) (suc i) x h = at_same ys i x (omega arith)

pub at_other : {X : Type 0} (xs : List X) (i j : ℕ) (x : X) → j ≢ i → slice_get (slice_set xs i x) j ≡ slice_get xs j
at_other [] i j x h = refl
at_other (y ∷ ys) zero zero x h = absurd (h refl)
at_other (y ∷ ys) zero (suc j) x h = refl
at_other (y ∷ ys) (suc i) zero x h = refl
at_other (y ∷ ys) (suc i) (suc j) x h = at_other ys i j x (λ e. h (ap suc e))

-- one list is another
module _ (us : List (Vec (Option Entry) Global)) (n : ℕ) (v w : Vec (Option Entry) Global) (there : slice_get us n ≡ Some v) (low : n < length us) where
  pub list_set : (u : ℕ) (b : Bool) → nat_eq u n ≡ b → entries_at (slice_set us n w) u ≡ cond b w.items (entries_at us u)
  list_set u true e = ap (λ m. entries_at (slice_set us n w) m) (eqb-true u n e) ∙ ap items_if (at_same us n w low)
  list_set u false e = ap items_if (at_other us n u w (λ d. ne d e))
    where
      ne : u ≡ n → nat_eq u n ≡ false → ⊥
      ne d e = grind arith

  pub more_set : length v.items ≤ length w.items → (u : ℕ) → length (entries_at us u) ≤ length (entries_at (slice_set us n w) u)
  more_set more u = go (nat_eq u n) refl
    where
      go : (b : Bool) → nat_eq u n ≡ b → length (entries_at us u) ≤ length (entries_at (slice_set us n w) u)
      go true e = let a = ap length (list_set u true e) in let d = ap length (ap (entries_at us) (eqb-true u n e) ∙ ap items_if there) in omega (arith, a, d, more)
      go false e = let a = ap length (list_set u false e) in omega (arith, a)

  pub same_set : ((g : ℕ) → entry_if (slice_get w.items g) ≡ entry_if (slice_get v.items g)) → (u g : ℕ) → entry_if (slice_get (entries_at (slice_set us n w) u) g) ≡ entry_if (slice_get (entries_at us u) g)
  same_set same u g = go (nat_eq u n) refl
    where
      go : (b : Bool) → nat_eq u n ≡ b → entry_if (slice_get (entries_at (slice_set us n w) u) g) ≡ entry_if (slice_get (entries_at us u) g)
      go true e = ap (λ l. entry_if (slice_get l g)) (list_set u true e) ∙ same g ∙ ap (λ l. entry_if (slice_get l g)) (sym (ap (entries_at us) (eqb-true u n e) ∙ ap items_if there))
      go false e = ap (λ l. entry_if (slice_get l g)) (list_set u false e)

-- an entry of it is another
module _ (us : List (Vec (Option Entry) Global)) (n f : ℕ) (v : Vec (Option Entry) Global) (there : slice_get us n ≡ Some v) (low : n < length us) (o : Option Entry) (here : f < length v.items) where
  pub entry_set : (u g : ℕ) → entry_if (slice_get (entries_at (slice_set us n (with_item v f o)) u) g) ≡ (if nat_eq u n && nat_eq g f then o else entry_if (slice_get (entries_at us u) g))
  entry_set u g = by_unit (nat_eq u n) refl
    where
      by_form : (a : Bool) → nat_eq u n ≡ true → nat_eq g f ≡ a → entry_if (slice_get (slice_set v.items f o) g) ≡ (if a then o else entry_if (slice_get (entries_at us u) g))
      by_form true e d = ap entry_if (ap (slice_get (slice_set v.items f o)) (eqb-true g f d) ∙ at_same v.items f o here)
      by_form false e d = ap entry_if (at_other v.items f g o (λ z. ne g f z d)) ∙ ap (λ l. entry_if (slice_get l g)) (sym (ap (entries_at us) (eqb-true u n e) ∙ ap items_if there))
        where
          ne : (a b : ℕ) → a ≡ b → nat_eq a b ≡ false → ⊥
          ne a b d e = grind arith

      by_unit : (b : Bool) → nat_eq u n ≡ b → entry_if (slice_get (entries_at (slice_set us n (with_item v f o)) u) g) ≡ (if b && nat_eq g f then o else entry_if (slice_get (entries_at us u) g))
      by_unit true e = ap (λ l. entry_if (slice_get l g)) (list_set us n v (with_item v f o) there low u true e) ∙ by_form (nat_eq g f) e refl
      by_unit false e = ap (λ l. entry_if (slice_get l g)) (list_set us n v (with_item v f o) there low u false e)

  pub place_set : (u g : ℕ) → g < length (entries_at us u) → g < length (entries_at (slice_set us n (with_item v f o)) u)
  place_set u g h = let a = more_set us n v (with_item v f o) there low (omega (arith, length-set v.items f o)) u in omega (arith, a, h)

-- ---- places

pub place_within : (us : List (Vec (Option Entry) Global)) (n f : ℕ) → f < length (entries_at us n) → n < length us
place_within [] n f h = absurd (omega arith)
place_within (v ∷ vs) zero f h = omega arith
place_within (v ∷ vs) (suc n) f h = let a = place_within vs n f h in omega (arith, a)

pub here_in : (us : List (Vec (Option Entry) Global)) (n f : ℕ) (v : Vec (Option Entry) Global) → slice_get us n ≡ Some v → f < length (entries_at us n) → f < length v.items
here_in us n f v there h = subst (λ (l : List (Option Entry)). f < length l) (ap items_if there) h

-- an empty place is added
pub place_added : (xs : List (Option Entry)) (f : ℕ) → entry_if (slice_get (xs ++ None ∷ []) f) ≡ entry_if (slice_get xs f)
place_added [] zero = refl
place_added [] (suc f) = refl
place_added (x ∷ xs) zero = refl
place_added (x ∷ xs) (suc f) = place_added xs f
