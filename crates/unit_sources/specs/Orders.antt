-- The order of units, each after what it imports, and the libraries that import one another in a circle (R7RS 5.6).
use Rattle.std.specs.Prelude.{◌≡◌, ◌≢◌, ℕ, ◌<◌, List, [], ◌∷◌, ◌++◌, map, filter, length, slice_get, true, false, Option, Some, None, Result, Ok, Err}
use Rattle.scheme_model.specs.Requirements.{LibraryName}
use Rattle.scheme_model.specs.IncludedUnits.{Placed}
use Rattle.scheme_model.specs.Program.{Prepared, prepare, is_in, on_circle, imported_as, UnitResult, fault_before}
use Rattle.import_sets.specs.InTurn.{in_turn, ComesAfter}
use Rattle.unit_sources.specs.declared.fault.LibraryFault.{LibraryFault}
use Rattle.unit_sources.specs.declared.fault.LibraryFault.TheVariants as fault

-- the units with the places of what they import
abbrev pub with_imports : List Placed → List Prepared
with_imports all = prepare all 0 all

-- ---- circles

-- the units that import themselves, directly or not
abbrev pub circles : List Placed → List Prepared
circles all = filter (on_circle (with_imports all)) (with_imports all)

abbrev pub name_before : Option LibraryName → List LibraryName → List LibraryName
name_before None ns = ns
name_before (Some n) ns = n ∷ ns

-- the names of the libraries among units
abbrev pub names_of : List Prepared → List LibraryName
names_of [] = []
names_of (p ∷ ps) = name_before (imported_as p.number p.placed.source) (names_of ps)

-- ---- turns

-- the numbers of results, the latest first
abbrev pub numbers : List UnitResult → List ℕ
numbers rs = map (λ (r : UnitResult). r.unit.number) rs

-- nothing breaks these units before they are expanded
abbrev pub HaveNoFault : List Placed → List Prepared → Type 0
HaveNoFault all ps = (n : ℕ) (p : Prepared) → slice_get ps n ≡ Some p → fault_before all ps p ≡ None

-- ---- answers

-- places of so many units, each of them once
pub record ArePlaces (count : ℕ) (places : List ℕ) : Type 0 where
  pub within : (n : ℕ) → is_in n places ≡ true → n < count
  pub once : (n : ℕ) (before rest : List ℕ) → places ≡ before ++ n ∷ rest → is_in n before ≡ false

-- no unit is on a circle, and these are the units in their turns: all of them, and each once and after what it imports
pub record AreInTurn (all : List Placed) (places : List ℕ) : Type 0 where
  pub no_circle : circles all ≡ []
  pub turns : places ≡ in_turn (with_imports all) (length all) []
  pub each : (n : ℕ) → n < length all → is_in n places ≡ true
  pub after : (n : ℕ) (before rest : List ℕ) → places ≡ before ++ n ∷ rest → ComesAfter (with_imports all) before n

-- these libraries are on circles, in the order of the units
pub record AreOnCircles (spelled : LibraryName → List ℕ) (all : List Placed) (names : List (List ℕ)) : Type 0 where
  pub some : circles all ≢ []
  pub all_names : names ≡ map spelled (names_of (circles all))

-- what a call answers; want of memory may come with any units
abbrev pub Answers : (LibraryName → List ℕ) → List Placed → Result (List ℕ) LibraryFault → Type 0
Answers spelled all (Ok places) = AreInTurn all places
Answers spelled all (Err fault.Memory) = Unit {0}
Answers spelled all (Err (fault.Cycle names)) = AreOnCircles spelled all names
Answers spelled all (Err (fault.BadDeclaration unit span)) = ⊥
Answers spelled all (Err fault.TooManyTokens) = ⊥
Answers spelled all (Err fault.SameLibrary) = ⊥
Answers spelled all (Err (fault.NotDefined s)) = ⊥
Answers spelled all (Err (fault.SameExport s)) = ⊥
