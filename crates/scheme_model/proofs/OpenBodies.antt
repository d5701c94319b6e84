-- A body that is open, by the time at which it was entered: what is around it, and which identifiers can stand in it.
use Rattle.std.proofs.Common.{◌≡◌, ℕ, ◌≤◌, ◌⊎◌, true, false, List, [], ◌∷◌, None}
use Rattle.scheme_model.specs.Identifiers.{Number, same_number}
use Rattle.scheme_model.specs.Ident.{Ident, Written, Inserted}
use Rattle.scheme_model.specs.Substitution.{Clock}
use Rattle.scheme_model.specs.ScopedExpansion.{Bind, Enter, Frames, BodyDefinitions, UsePlace, around, find}
use Rattle.scheme_model.specs.FrameImages.{is_before}

-- no form has counted less
abbrev pub Leq : Clock → Clock → Type 0
Leq n m = (f : ℕ) → n f ≤ m f

-- a number of a unit that is counted, and one that isn't yet
abbrev pub Before : ℕ → Clock → Number → Type 0
Before unit n k = is_before unit n k ≡ true

abbrev pub NotYet : ℕ → Clock → Number → Type 0
NotYet unit n k = is_before unit n k ≡ false

-- each body that is entered around a place
abbrev pub Entered : (Number → Type 0) → Frames → Type 0
Entered P [] = Unit {0}
Entered P (Bind x v ∷ fs) = Entered P fs
Entered P (Enter b u ∷ fs) = P b × Entered P fs

-- made by uses of the unit that the clock has counted
abbrev pub Below : ℕ → Clock → Ident → Type 0
Below unit u (Written v s) = Unit {0}
Below unit u (Inserted i k) = Before unit u k × Below unit u i

-- the macros of these uses were defined in these bodies
abbrev pub PlacesIn : ℕ → Clock → (Number → Type 0) → List UsePlace → Type 0
PlacesIn unit u P ps = (k : Number) → Before unit u k → Entered P (around ps k)

-- bodies that the clock has counted define only what its uses made
abbrev pub DefinitionsBelow : ℕ → BodyDefinitions → Clock → Clock → Type 0
DefinitionsBelow unit ds u n = (b : Number) (i : Ident) → Before unit n b → (find ds b i ≡ None) ⊎ Below unit u i

-- frames of the unit after u uses and n bodies; m are the bodies that were entered before one of them
abbrev pub FramesOk : ℕ → BodyDefinitions → Clock → Clock → Frames → Type 0
FramesOk unit ds u n [] = Unit {0}
FramesOk unit ds u n (Bind x v ∷ fs) = Below unit u x × FramesOk unit ds u n fs
FramesOk unit ds u n (Enter b z ∷ fs) = (m : Clock) × (b.unit ≡ unit) × Before unit n b × Leq z u × Leq m n × NotYet unit m b × DefinitionsBelow unit ds z m × FramesOk unit ds z m fs

-- another body
abbrev pub Other : Number → Number → Type 0
Other b a = same_number b a ≡ false

-- an identifier that can stand in it: each use in it is of a macro that is defined in it, or of one from outside
abbrev pub Sits : Number → Clock → Frames → List UsePlace → Ident → Type 0
Sits b u c ps (Written w s) = Unit {0}
Sits b u c ps (Inserted i k) = ((around ps k ≡ Enter b u ∷ c) × Sits b u c ps i) ⊎ (Entered (Other b) (around ps k) × Below b.unit u i)
