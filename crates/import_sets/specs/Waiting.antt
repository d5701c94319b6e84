-- The units that are to be looked at, and the first of them that is open.
use Rattle.std.specs.Prelude.{◌≡◌, ◌≢◌, ℕ, ◌<◌, ◌≤◌, Bool, true, false}
use Rattle.std.specs.BTreeSet.{BTreeSet, contains}
use Rattle.std.specs.Ordering.{nat_cmp}

abbrev pub Places : Type 0
Places = BTreeSet ℕ

abbrev pub has : Places → ℕ → Bool
has s n = contains nat_cmp s n

-- all numbers below one and no others
pub record HasAllBelow (count : ℕ) (s : Places) : Type 0 where
  pub all : (n : ℕ) → n < count → has s n ≡ true
  pub others : (n : ℕ) → has s n ≡ true → n < count

-- the first that is open; the others that are open stay
pub record Finds (open_at : ℕ → Bool) (old new : Places) (n : ℕ) : Type 0 where
  pub member : has old n ≡ true
  pub is_open : open_at n ≡ true
  pub first : (m : ℕ) → has old m ≡ true → open_at m ≡ true → n ≤ m
  pub stay : (m : ℕ) → m ≢ n → has old m ≡ true → open_at m ≡ true → has new m ≡ true
  pub from_old : (m : ℕ) → has new m ≡ true → has old m ≡ true

-- none is open
abbrev pub Misses : (ℕ → Bool) → Places → Type 0
Misses open_at old = (m : ℕ) → has old m ≡ true → open_at m ≡ false
