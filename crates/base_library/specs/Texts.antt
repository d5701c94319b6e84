-- The standard libraries by the texts of their names.
use Rattle.std.specs.Prelude.{◌≡◌, ℕ, List, [], ◌∷◌, ◌++◌, map, Option, Some, None, codes, if◌then◌else◌}
use Rattle.std.specs.List.{join_with_byte}
use Rattle.std.specs.Str.{bytes_eq}
use Rattle.scheme_model.specs.Requirements.{LibraryPart, Symbol, Digits, LibraryName}
use Rattle.scheme_model.specs.StandardLibraries.{StandardLibrary, standard_libraries}

abbrev pub part_text : LibraryPart → List ℕ
part_text (Symbol s) = s
part_text (Digits s) = s

-- the parts in parentheses, with one space between each two
abbrev pub name_text : LibraryName → List ℕ
name_text n = codes "(" ++ (join_with_byte 32 (map part_text n) ++ codes ")")

abbrev pub names_by : List StandardLibrary → List ℕ → Option (List (List ℕ))
names_by [] text = None
names_by (l ∷ ls) text = if bytes_eq (name_text l.name) text then Some l.names else names_by ls text

-- the names of the standard library whose name has this text
abbrev pub names_of : List ℕ → Option (List (List ℕ))
names_of text = names_by standard_libraries text

-- ---- however library names are told by texts

abbrev pub SpellsAll : (LibraryName → List ℕ) → List StandardLibrary → Type 0
SpellsAll spelled [] = Unit {0}
SpellsAll spelled (l ∷ ls) = (spelled l.name ≡ name_text l.name) × SpellsAll spelled ls

-- texts tell names apart, and those of the standard libraries have their parts in parentheses
pub record SpellsStandard (spelled : LibraryName → List ℕ) : Type 0 where
  pub tells : (m n : LibraryName) → spelled m ≡ spelled n → m ≡ n
  pub standard : SpellsAll spelled standard_libraries
