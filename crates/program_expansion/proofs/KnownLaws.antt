-- Which libraries there are, by the texts of their names that are listed: those of the standard libraries, and of the documents'.
use Rattle.std.proofs.Common.{◌≡◌, ℕ, List, ◌++◌, map, sym, ap, ◌∙◌}
use Rattle.std.specs.Prelude.{String}
use Rattle.std.specs.declared.alloc.Global.{Global}
use Rattle.std.specs.BTreeSet.{BTreeSet, contains_text}
use Rattle.scheme_model.specs.Includes.{Document}
use Rattle.scheme_model.specs.Program.{all_names, known_in, has_name}
use Rattle.scheme_model.specs.Requirements.{LibraryName}
use Rattle.scheme_tokens.specs.LibraryNames.{library_text, IsProper}
use Rattle.unit_sources.proofs.KnownTexts.{known_told}
use Rattle.base_library.proofs.StandardTexts.{same_texts}
use Rattle.feature_requirements.specs.Judged.{Knows}
use Rattle.document_units.specs.KnownNames.{listed_texts}

pub known_listed : (ds : List Document) (names : List (List ℕ)) → names ≡ listed_texts ds → (n : LibraryName) → IsProper n → known_in ds n ≡ has_name names (library_text n)
known_listed ds names e n h =
    known_told ds n h ∙ ap (λ (ts : List (List ℕ)). has_name (ts ++ map library_text (all_names ds)) (library_text n)) (sym same_texts)
    ∙ ap (λ (ts : List (List ℕ)). has_name ts (library_text n)) (sym e)

-- a set of these texts
pub knows_all : (ds : List Document) (names : List (List ℕ)) (libraries : BTreeSet (String Global)) → names ≡ listed_texts ds → ((s : List ℕ) → contains_text libraries s ≡ has_name names s) → Knows libraries (known_in ds)
knows_all ds names libraries e h n written = known_listed ds names e n written ∙ sym (h (library_text n))
