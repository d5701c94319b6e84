-- The units by their places, each with the places of what it imports; what is marked of them, and what is open.
use Rattle.std.specs.Prelude.{◌≡◌, ℕ, zero, suc, ◌<◌, ◌==◌, List, [], ◌∷◌, ◌++◌, length, slice_get, slice_set, slice_index_or, Bool, true, false, not, ◌&&◌, Option, Some, None, if◌then◌else◌}
use Rattle.scheme_model.specs.Program.{Prepared, imports_at, is_in, reached}

-- ---- places

abbrev pub is_place : ℕ → Option ℕ → Bool
is_place n None = false
is_place n (Some p) = n == p

-- with a place more, if there is one and it isn't there yet
abbrev pub with_new : List ℕ → Option ℕ → List ℕ
with_new ns None = ns
with_new ns (Some p) = if is_in p ns then ns else ns ++ p ∷ []

-- ---- rows of places

abbrev pub row : List (List ℕ) → ℕ → List ℕ
row g n = slice_index_or g n []

abbrev pub AreWithin : List (List ℕ) → Type 0
AreWithin g = (n m : ℕ) → is_in m (row g n) ≡ true → m < length g

-- the rows are what these units import
pub record IsGraph (g : List (List ℕ)) (ps : List Prepared) : Type 0 where
  pub size : length g ≡ length ps
  pub imports : (n m : ℕ) → is_in m (row g n) ≡ is_in m (imports_at ps n)

-- each unit stands at its number
abbrev pub AreNumbered : List Prepared → Type 0
AreNumbered ps = (n : ℕ) (p : Prepared) → slice_get ps n ≡ Some p → (p.number ≡ n) × (p.imports ≡ imports_at ps n)

-- ---- marks

abbrev pub is_marked : List Bool → ℕ → Bool
is_marked ms n = slice_index_or ms n false

-- what is marked, and what is left of it
pub record Marks : Type 0 where
  pub marked : List Bool
  pub left : List ℕ

abbrev pub marks : List Bool → List ℕ → Marks
marks ms ns = record { marked = ms; left = ns }

abbrev pub mark : Marks → ℕ → Marks
mark w p = if is_marked w.marked p then w else marks (slice_set w.marked p true) (w.left ++ p ∷ [])

abbrev pub mark_all : Marks → List ℕ → Marks
mark_all w [] = w
mark_all w (p ∷ ps) = mark_all (mark w p) ps

abbrev pub unmarked : List Bool → ℕ
unmarked [] = 0
unmarked (m ∷ ms) = if m then unmarked ms else suc (unmarked ms)

-- ---- circles

abbrev pub is_circular : List Prepared → ℕ → Bool
is_circular ps n = is_in n (reached ps (length ps) (imports_at ps n))

-- the numbers below one that pass a test
abbrev pub passing : (ℕ → Bool) → ℕ → List ℕ
passing f zero = []
passing f (suc n) = if f n then passing f n ++ n ∷ [] else passing f n

-- ---- turns

abbrev pub all_marked : List Bool → List ℕ → Bool
all_marked ms [] = true
all_marked ms (n ∷ ns) = is_marked ms n && all_marked ms ns

-- a unit isn't done, and all that it imports is
abbrev pub is_open : List (List ℕ) → List Bool → ℕ → Bool
is_open g done n = not (is_marked done n) && all_marked done (row g n)

-- a number more in the rows at these places
abbrev pub add_one : List (List ℕ) → ℕ → ℕ → List (List ℕ)
add_one h n p = slice_set h p (row h p ++ n ∷ [])

abbrev pub add_to : List (List ℕ) → ℕ → List ℕ → List (List ℕ)
add_to h n [] = h
add_to h n (p ∷ ps) = add_to (add_one h n p) n ps

-- each row has the units that import the one at its place
pub record AreImporters (g h : List (List ℕ)) : Type 0 where
  pub size : length h ≡ length g
  pub all : (n m : ℕ) → is_in m (row g n) ≡ true → is_in n (row h m) ≡ true
  pub within : (m n : ℕ) → is_in n (row h m) ≡ true → n < length g
