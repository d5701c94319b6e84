-- A requirement by a library's name is met as a set of texts knows libraries, since names that are read are proper.
use Rattle.std.proofs.Common.{◌≡◌, ℕ, Bool, List, [], ◌∷◌, length, arith, Result, Ok, Err, IfOk, sym, ap, ◌∙◌}
use Rattle.std.specs.Prelude.{String}
use Rattle.std.specs.declared.alloc.Global.{Global}
use Rattle.std.specs.BTreeSet.{BTreeSet, contains_text}
use Rattle.scheme_model.specs.ExpansionFaults.{Fault, ◌>>◌}
use Rattle.scheme_model.specs.Requirements.{LibraryName, Known, library_name_of}
use Rattle.scheme_model.specs.declared.Occ.{Occ}
use Rattle.datum_reader.specs.declared.datum.Datum as code
use Rattle.datum_reader.specs.Views.{datum_of}
use Rattle.datum_reader.specs.Looks.{tree_at, trees_at}
use Rattle.scheme_tokens.specs.LibraryNames.{library_text, IsProper}
use Rattle.scheme_tokens.proofs.NameTrees.{name_proper, tree_encoded}
use Rattle.known_libraries.specs.Chosen.{library_holds}
use Rattle.known_libraries.specs.PartsRead.{Knows, map_ok}

abbrev itself : List ℕ → List ℕ
itself s = s

abbrev F : Type 0
F = Fault (List ℕ)

abbrev told_by : Known → LibraryName → Result Bool F
told_by known n = Ok (known n)

answered : (texts : BTreeSet (String Global)) (has : Known) → Knows texts has → (r : Result LibraryName F) → IfOk r IsProper → (s : List ℕ) → map_ok library_text r ≡ Ok s → (r >> told_by has) ≡ Ok (contains_text texts s)
answered texts has knows (Ok n) h s e = let same : library_text n ≡ s = cc in ap Ok (knows n h ∙ ap (contains_text texts) same)
answered texts has knows (Err f) h s e = absurd cc

pub library_known : (texts : BTreeSet (String Global)) (has : Known) (place : ℕ → Occ) (ds : List code.Datum) (d : code.Datum) (es : List code.Datum) (s : List ℕ) (here : Bool) → Knows texts has → ds ≡ d ∷ es → length es ≡ 0 →
    map_ok library_text (library_name_of itself (tree_at place d)) ≡ Ok s → here ≡ contains_text texts s → library_holds has (trees_at place ds) ≡ Ok here
library_known texts has place ds d [] s here knows is few named there =
    ap (λ (xs : List code.Datum). library_holds has (trees_at place xs)) is
    ∙ answered texts has knows (library_name_of itself (tree_at place d)) (name_proper itself (tree_at place d) (tree_encoded place (datum_of d))) s named
    ∙ ap Ok (sym there)
library_known texts has place ds d (e ∷ es) s here knows is few named there = absurd (omega (arith, few))
