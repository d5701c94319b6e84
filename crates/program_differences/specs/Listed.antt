-- The lists of units of the code, compared by document, kind, number of forms and name, and the least form with an Error.
use Rattle.std.specs.Prelude.{◌≡◌, ◌==◌, ◌&&◌, ℕ, suc, List, [], ◌∷◌, map, length, nat_le, slice_get, Bool, true, false, Option, Some, None, if◌then◌else◌}
use Rattle.std.specs.Str.{bytes_eq}
use Rattle.scheme_model.specs.Requirements.{LibraryName}
use Rattle.scheme_model.specs.Program.{UnitResult, Program, result_at}
use Rattle.rename_model.specs.SameProgram.{kind_number, least_of}
use Rattle.core_tree.specs.Units.{kind_as}
use Rattle.core_tree.specs.declared.units.Unit.{Unit as CodeUnit}
use Rattle.core_tree.specs.declared.units.UnitError.{UnitError}

abbrev pub same_name : Option (List ℕ) → Option (List ℕ) → Bool
same_name None None = true
same_name None (Some t) = false
same_name (Some s) None = false
same_name (Some s) (Some t) = bytes_eq s t

abbrev pub listed_alike : CodeUnit → CodeUnit → Bool
listed_alike c d =
    ((bytes_eq c.uri d.uri && (kind_number (kind_as c.kind) == kind_number (kind_as d.kind))) && (length c.forms == length d.forms)) && same_name c.name d.name

abbrev pub alike_in : CodeUnit → Option CodeUnit → Bool
alike_in c None = false
alike_in c (Some d) = listed_alike c d

-- the first place at which two lists differ, from a place on
abbrev pub first_unlike : ℕ → List CodeUnit → List CodeUnit → Option ℕ
first_unlike place [] [] = None
first_unlike place [] (d ∷ ds) = Some place
first_unlike place (c ∷ cs) [] = Some place
first_unlike place (c ∷ cs) (d ∷ ds) = if listed_alike c d then first_unlike (suc place) cs ds else Some place

-- as many units, each with as many forms
pub record AreAlike (cs ds : List CodeUnit) : Type 0 where
  pub count : length cs ≡ length ds
  pub forms : (n : ℕ) (c d : CodeUnit) → slice_get cs n ≡ Some c → slice_get ds n ≡ Some d → length c.forms ≡ length d.forms

-- a library's name that a unit of a program has
pub record IsNameIn (p : Program) (n : LibraryName) : Type 0 where
  pub place : ℕ
  pub unit : UnitResult
  pub there : result_at p.units place ≡ Some unit
  pub name : unit.unit.placed.source.name ≡ Some n

-- different libraries of two programs are written differently
abbrev pub TellsApart : (LibraryName → List ℕ) → Program → Program → Type 0
TellsApart text p q = (m n : LibraryName) → IsNameIn p m → IsNameIn q n → text m ≡ text n → m ≡ n

-- no two documents have one uri
abbrev pub AreDistinct : List (List ℕ) → Type 0
AreDistinct uris = (m n : ℕ) (uri : List ℕ) → slice_get uris m ≡ Some uri → slice_get uris n ≡ Some uri → m ≡ n

-- the forms of Errors
abbrev pub forms_of : List UnitError → List ℕ
forms_of es = map (λ (e : UnitError). e.form) es

abbrev pub least_among : List ℕ → Option ℕ
least_among [] = None
least_among (n ∷ ns) = Some (least_of (n ∷ ns))

-- the least of these and of one that was found before
abbrev pub least_or : Option ℕ → List ℕ → Option ℕ
least_or None [] = None
least_or None (n ∷ ns) = least_or (Some n) ns
least_or (Some m) [] = Some m
least_or (Some m) (n ∷ ns) = least_or (Some (if nat_le m n then m else n)) ns
