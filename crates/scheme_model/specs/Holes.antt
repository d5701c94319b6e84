-- Where the holes of a quasiquoted datum are (R7RS 4.2.8).
use Rattle.std.specs.Prelude.{◌≡◌, ℕ, ◌+◌, ◌==◌, List, [], ◌∷◌, ◌++◌, Option, Some, None, if◌then◌else◌}
use Rattle.scheme_model.specs.declared.Occ.{Occ}
use Rattle.scheme_model.specs.Trees.{Tree, name, atom, list, vector, Trees, no_trees, tree, Tail, proper, dotted}
use Rattle.scheme_model.specs.Cores.{hole_weight, weight, weights}

-- for each name of no weight how many nodes stand before it, from left to right and a list before its parts
abbrev mutual
  pub places_in : {A : Type 0} → (A → ℕ) → ℕ → Tree A → List ℕ
  places_in of n (name i o) = if of i == 0 then n ∷ [] else []
  places_in of n (atom a o) = []
  places_in of n (list ts tail o) = places_among of (n + 1) ts ++ places_behind of (n + 1 + weights of ts) tail
  places_in of n (vector ts o) = places_among of (n + 1) ts

  pub places_among : {A : Type 0} → (A → ℕ) → ℕ → Trees A → List ℕ
  places_among of n no_trees = []
  places_among of n (tree t ts) = places_in of n t ++ places_among of (n + weight of t) ts

  pub places_behind : {A : Type 0} → (A → ℕ) → ℕ → Tail A → List ℕ
  places_behind of n proper = []
  places_behind of n (dotted t) = places_in of n t

-- the places of the holes
abbrev pub hole_places : {A : Type 0} → Tree (Option A) → List ℕ
hole_places h = places_in hole_weight 0 h

-- a tree has the shape of another, and P says what stands where that has a name
abbrev mutual
  pub IsLike : {A C : Type 0} → (Tree A → C → Option Occ → Type 0) → Tree A → Tree C → Type 0
  IsLike P t (name c o) = P t c o
  IsLike P t (atom a o) = t ≡ atom a o
  IsLike {A} P t (list us end o) = (ts : Trees A) × (tail : Tail A) × (t ≡ list ts tail o) × AreLike P ts us × IsTailLike P tail end
  IsLike {A} P t (vector us o) = (ts : Trees A) × (t ≡ vector ts o) × AreLike P ts us

  pub AreLike : {A C : Type 0} → (Tree A → C → Option Occ → Type 0) → Trees A → Trees C → Type 0
  AreLike P ts no_trees = ts ≡ no_trees
  AreLike {A} P ts (tree u us) = (t : Tree A) × (rest : Trees A) × (ts ≡ tree t rest) × IsLike P t u × AreLike P rest us

  pub IsTailLike : {A C : Type 0} → (Tree A → C → Option Occ → Type 0) → Tail A → Tail C → Type 0
  IsTailLike P tail proper = tail ≡ proper
  IsTailLike {A} P tail (dotted u) = (t : Tree A) × (tail ≡ dotted t) × IsLike P t u

-- a hole stands for any tree, and what the identifier stands for, for the identifier
abbrev pub FillsHole : {A B : Type 0} → (A → B) → Tree A → Option B → Option Occ → Type 0
FillsHole f t None o = Unit {0}
FillsHole {A} f t (Some b) o = (i : A) × (t ≡ name i o) × (f i ≡ b)

-- a datum is a tree with holes taken out of it
abbrev pub HasHoles : {A B : Type 0} → (A → B) → Tree A → Tree (Option B) → Type 0
HasHoles f t h = IsLike (FillsHole f) t h
