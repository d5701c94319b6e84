-- The texts of libraries' names tell the libraries of two programs apart, and no two open documents have one uri.
use Rattle.std.proofs.Common.{◌≡◌, ℕ, suc, ◌==◌, List, [], ◌∷◌, ◌++◌, map, Bool, true, false, cond, Option, Some, None, sym, subst}
use Rattle.scheme_model.specs.Data.{Datum, Place, place_of}
use Rattle.scheme_model.specs.Declarations.{UnitKind, IsLibrary, IsProgram, behind_head, is_library, library_name}
use Rattle.scheme_model.specs.Included.{Listing, Lists, BadAfter, TooLong, Texts, all_texts, forms_of}
use Rattle.scheme_model.specs.IncludedUnits.{UnitSource, Placed, source_by, unless_circular, own, library_listing, library_of, libraries_in, importing, program_in, units_in, units_from, max_tokens, sources_within}
use Rattle.scheme_model.specs.Includes.{Document, Naming, naming, data_of, is_on_circle, is_part, program_data}
use Rattle.scheme_model.specs.Program.{Prepared, UnitResult, known_in, prepare, program_of, result_at, units_of}
use Rattle.scheme_model.specs.Requirements.{Known, LibraryName}
use Rattle.scheme_tokens.specs.LibraryNames.{library_text, IsProper}
use Rattle.scheme_tokens.proofs.NamesTold.{texts_tell}
use Rattle.unit_sources.proofs.KnownTexts.{IfProper, name_proper}
use Rattle.program_laws.specs.Turns.{Each}
use Rattle.program_laws.proofs.Lists.{each_map, each_both}
use Rattle.program_laws.proofs.Results.{results_in_order}
use Rattle.program_differences.specs.Listed.{IsNameIn, TellsApart}

-- ---- names of units are proper

abbrev SourceProper : UnitSource → Type 0
SourceProper u = IfProper u.name

abbrev PlacedProper : Placed → Type 0
PlacedProper u = IfProper u.source.name

abbrev PreparedProper : Prepared → Type 0
PreparedProper p = IfProper p.placed.source.name

listed_proper : (kind : UnitKind) (name : Option LibraryName) (start : Place) (l : Listing) → IfProper name → SourceProper (source_by kind name start l)
listed_proper kind name start (Lists n fs ls) h = h
listed_proper kind name start (BadAfter n x) h = h
listed_proper kind name start TooLong h = h

unless_proper : (b : Bool) (u : UnitSource) → SourceProper u → SourceProper (unless_circular b u)
unless_proper true u h = h
unless_proper false u h = h

libraries_proper : (t : Texts) (known : Known) (n : ℕ) (ds : List Datum) → Each SourceProper (libraries_in t known n ds)
libraries_proper t known n [] = tt
libraries_proper t known n (d ∷ ds) = go (libraries_proper t known n ds) (is_library d)
  where
    go : Each SourceProper (libraries_in t known n ds) → (b : Bool) → Each SourceProper (cond b (library_of t known n d ∷ libraries_in t known n ds) (libraries_in t known n ds))
    go rest true = (listed_proper IsLibrary (library_name d) (place_of d) (library_listing t known (own n d) (behind_head d)) (name_proper (behind_head d)), rest)
    go rest false = rest

program_proper : (t : Texts) (n : ℕ) (b : Bool) (ds : List Datum) → Each SourceProper (program_in t n b ds)
program_proper t n b [] = tt
program_proper t n true (d ∷ ds) = (tt, tt)
program_proper t n false (d ∷ ds) = (listed_proper IsProgram None (place_of d) (importing (forms_of t (map (own n) (d ∷ ds)))) tt, tt)

placed_proper : (t : Texts) (known : Known) (all : Naming) (n : ℕ) (ds : List Document) → Each PlacedProper (units_from t known all n ds)
placed_proper t known all n [] = tt
placed_proper t known all n (d ∷ ds) =
    let libraries = libraries_in t known n (data_of d) in
    let program = program_in t n (is_part all n) (program_data (data_of d)) in
    each_both PlacedProper (map (λ u. record { document = n; source = u }) (units_in t known all n (data_of d))) (units_from t known all (suc n) ds)
    (each_map SourceProper PlacedProper (λ u. record { document = n; source = u }) (units_in t known all n (data_of d))
    (each_map SourceProper SourceProper (unless_circular (is_on_circle all n)) (libraries ++ program)
    (each_both SourceProper libraries program (libraries_proper t known n (data_of d)) (program_proper t n (is_part all n) (program_data (data_of d))))
    (λ u h. unless_proper (is_on_circle all n) u h))
    (λ u h. h))
    (placed_proper t known all (suc n) ds)

prepared_proper : (all : List Placed) (n : ℕ) (us : List Placed) → Each PlacedProper us → Each PreparedProper (prepare all n us)
prepared_proper all n [] h = tt
prepared_proper all n (u ∷ us) h = (h.0, prepared_proper all (suc n) us h.1)

found_proper : (rs : List UnitResult) (place : ℕ) (r : UnitResult) → Each PreparedProper (map (λ (r : UnitResult). r.unit) rs) → result_at rs place ≡ Some r → PreparedProper r.unit
found_proper [] place r h e = absurd cc
found_proper (x ∷ rs) place r h e = go (found_proper rs place r h.1) (x.unit.number == place) e
  where
    go : (result_at rs place ≡ Some r → PreparedProper r.unit) → (b : Bool) → cond b (Some x) (result_at rs place) ≡ Some r → PreparedProper r.unit
    go rest true k = let same : x ≡ r = cc in subst (λ (y : UnitResult). PreparedProper y.unit) same h.0
    go rest false k = rest k

names_proper : (ds : List Document) (n : LibraryName) → IsNameIn (program_of ds) n → IsProper n
names_proper ds n is =
    let all : Each PreparedProper (map (λ (r : UnitResult). r.unit) (program_of ds).units) =
    subst (Each PreparedProper) (sym (results_in_order ds)) (prepared_proper (units_of ds) 0 (units_of ds) (placed_proper (all_texts (sources_within max_tokens (naming ds) (known_in ds) ds)) (known_in ds) (naming ds) 0 ds)) in
    subst IfProper is.name (found_proper (program_of ds).units is.place is.unit all is.there)

pub names_tell : (ds es : List Document) → TellsApart library_text (program_of ds) (program_of es)
names_tell ds es m n h k e = texts_tell m n (names_proper ds m h) (names_proper es n k) e
