-- The libraries that there are, by the texts of their names (R7RS 4.2.1, 5.6.1): those of the standard libraries, and of documents'.
use Rattle.std.specs.Prelude.{ℕ, List, ◌++◌, map, Option, None, if◌then◌else◌}
use Rattle.scheme_model.specs.Data.{Datum}
use Rattle.scheme_model.specs.Declarations.{is_library, library_name}
use Rattle.scheme_model.specs.Includes.{Document}
use Rattle.scheme_model.specs.Program.{all_names}
use Rattle.scheme_model.specs.Requirements.{LibraryName}
use Rattle.scheme_model.specs.StandardLibraries.{StandardLibrary, standard_libraries}
use Rattle.scheme_tokens.specs.LibraryNames.{library_text}
use Rattle.base_library.specs.Texts.{name_text}

-- the names that a workspace lists
abbrev pub listed_texts : List Document → List (List ℕ)
listed_texts ds = map (λ (l : StandardLibrary). name_text l.name) standard_libraries ++ map library_text (all_names ds)

-- the name of a library
abbrev pub name_in : Datum → Option LibraryName
name_in d = if is_library d then library_name d else None
