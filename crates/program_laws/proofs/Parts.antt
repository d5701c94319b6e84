-- Nothing comes of the program of a text that others include but its forms, and nothing is told of it.
use Rattle.std.proofs.Common.{◌≡◌, ℕ, zero, suc, List, [], ◌∷◌, ◌++◌, map, length, Bool, true, false, cond, Option, Some, None, Result, Ok, Err, refl, sym, ap, ◌∙◌}
use Rattle.std.specs.Prelude.{not, ◌==◌, ◌&&◌, if◌then◌else◌}
use Rattle.std.specs.List.{list_any}
use Rattle.scheme_model.specs.declared.Occ.{Occ}
use Rattle.scheme_model.specs.Ident.{Ident, Written, Inserted, symbol_of}
use Rattle.scheme_model.specs.Data.{Datum, Data, none, part, tail, Place, place_of}
use Rattle.scheme_model.specs.Requirements.{Known, LibraryName}
use Rattle.scheme_model.specs.UnitExpansion.{Formed}
use Rattle.scheme_model.specs.Substitution.{Table, State}
use Rattle.scheme_model.specs.Entries.{Entry}
use Rattle.scheme_model.specs.Declarations.{UnitForm, plain_form, UnitKind, IsLibrary, IsProgram, IsPart, is_part_kind, behind_head, library_name, is_library}
use Rattle.scheme_model.specs.Includes.{Document, data_of, Naming, naming, is_on_circle, is_part, program_data}
use Rattle.scheme_model.specs.Included.{Listing, Lists, BadAfter, TooLong, LostString, Texts, forms_of, all_texts}
use Rattle.scheme_model.specs.IncludedUnits.{UnitSource, Placed, source_by, unless_circular, own, library_listing, library_of, libraries_in, importing, part_of, program_in, units_in, units_from, max_tokens, sources_within}
use Rattle.scheme_model.specs.Program.{known_in, units_of, ImportSpec, ExportSpec, specs_from, exports_from, forms_or_none, Prepared, prepared, prepare, WholeFault, fault_before, SetResult, UnitResult, Progress, result_at, import_all, unit_entries, is_program, forms_at_work, form_trees, start_of, by_fault, unit_result, unit_over, with_entries, is_ready, first_ready, worked, work, progress_before, in_order, Program, program_of}
use Rattle.scheme_model.specs.Diagnostics.{Bytes, Diagnostic, Span, document_of, bytes_of, at_bytes, or_start, set_diagnostics, hides, is_broken, hiding_diagnostics, unit_diagnostics}
use Rattle.program_laws.specs.Turns.{Each}
use Rattle.program_laws.specs.Parts.{IsNothing, TellsNothing}
use Rattle.program_laws.proofs.Lists.{each_map, each_both, one_of_two}

-- ---- units

-- a part's forms are data as they stand, or it has none
abbrev IsPlain : UnitSource → Type 0
IsPlain u = is_part_kind u.kind ≡ true → (u.lost ≡ []) × ((ds : List Datum) × (forms_or_none u.forms ≡ map plain_form ds))

no : {X : Type 0} → false ≡ true → X
no e = absurd cc

plain_by : (k : UnitKind) (m : Option LibraryName) (at : Place) (l : Listing) → is_part_kind k ≡ false → IsPlain (source_by k m at l)
plain_by k m at (Lists n fs ls) e = λ h. no (sym e ∙ h)
plain_by k m at (BadAfter n d) e = λ h. (refl, ([], refl))
plain_by k m at TooLong e = λ h. (refl, ([], refl))

module _ (t : Texts) (known : Known) (all : Naming) (document : ℕ) where
  libraries_plain : (ds : List Datum) → Each IsPlain (libraries_in t known document ds)
  libraries_plain [] = tt
  libraries_plain (d ∷ ds) =
      one_of_two (Each IsPlain) (is_library d) (library_of t known document d ∷ libraries_in t known document ds) (libraries_in t known document ds)
      (plain_by IsLibrary (library_name d) (place_of d) (library_listing t known (own document d) (behind_head d)) refl, libraries_plain ds) (libraries_plain ds)

  program_plain : (b : Bool) (ds : List Datum) → Each IsPlain (program_in t document b ds)
  program_plain b [] = tt
  program_plain true (d ∷ ds) = (λ h. (refl, (d ∷ ds, refl)), tt)
  program_plain false (d ∷ ds) = (plain_by IsProgram None (place_of d) (importing (forms_of t (map (own document) (d ∷ ds)))) refl, tt)

  circular_plain : (b : Bool) (u : UnitSource) → IsPlain u → IsPlain (unless_circular b u)
  circular_plain true u h = λ e. (refl, ([], refl))
  circular_plain false u h = h

  units_plain : (ds : List Datum) → Each IsPlain (units_in t known all document ds)
  units_plain ds =
      let us = libraries_in t known document ds in
      let ps = program_in t document (is_part all document) (program_data ds) in
      each_map IsPlain IsPlain (unless_circular (is_on_circle all document)) (us ++ ps) (each_both IsPlain us ps (libraries_plain ds) (program_plain (is_part all document) (program_data ds)))
      (λ u h. circular_plain (is_on_circle all document) u h)

abbrev PlacedPlain : Placed → Type 0
PlacedPlain u = IsPlain u.source

all_plain : (t : Texts) (known : Known) (all : Naming) (n : ℕ) (ds : List Document) → Each PlacedPlain (units_from t known all n ds)
all_plain t known all n [] = tt
all_plain t known all n (d ∷ ds) =
    let us = units_in t known all n (data_of d) in
    each_both PlacedPlain (map (λ u. record { document = n; source = u }) us) (units_from t known all (suc n) ds)
    (each_map IsPlain PlacedPlain (λ u. record { document = n; source = u }) us (units_plain t known all n (data_of d)) (λ u h. h)) (all_plain t known all (suc n) ds)

-- ---- what they import and export

no_specs : (unit form : ℕ) (ds : List Datum) → specs_from unit form (map plain_form ds) ≡ []
no_specs unit form [] = refl
no_specs unit form (d ∷ ds) = no_specs unit (suc form) ds

no_exports : (unit form : ℕ) (ds : List Datum) → exports_from unit form (map plain_form ds) ≡ []
no_exports unit form [] = refl
no_exports unit form (d ∷ ds) = no_exports unit (suc form) ds

-- a part imports and exports nothing
record Alone (p : Prepared) : Type 0 where
  lost : p.placed.source.lost ≡ []
  specs : p.specs ≡ []
  exports : p.exports ≡ []

abbrev IsAlone : Prepared → Type 0
IsAlone p = is_part_kind p.placed.source.kind ≡ true → Alone p

prepared_alone : (all : List Placed) (n : ℕ) (us : List Placed) → Each PlacedPlain us → Each IsAlone (prepare all n us)
prepared_alone all n [] h = tt
prepared_alone all n (u ∷ us) h = (
  λ e.
      let q = h.0 e in
      record {
        lost = q.0;
        specs = ap (specs_from n 0) q.1.1 ∙ no_specs n 0 q.1.0;
        exports = ap (exports_from n 0) q.1.1 ∙ no_exports n 0 q.1.0;
      },
  prepared_alone all (suc n) us h.1,
)

-- ---- what they come to

abbrev ComesToNothing : UnitResult → Type 0
ComesToNothing r = is_part_kind r.unit.placed.source.kind ≡ true → IsNothing r × (r.unit.placed.source.lost ≡ [])

not_program : (k : UnitKind) → is_part_kind k ≡ true → is_program k ≡ false
not_program IsLibrary e = no e
not_program IsProgram e = no e
not_program IsPart e = refl

no_entries : (all : List Placed) (rs : List UnitResult) (p : Prepared) → is_part_kind p.placed.source.kind ≡ true → Alone p → unit_entries all rs p ≡ ([], [])
no_entries all rs p e h = let k = not_program p.placed.source.kind e in let s = h.specs in rw (k, s) refl

no_work : (p : Prepared) → is_part_kind p.placed.source.kind ≡ true → forms_at_work p ≡ []
no_work p e = ap (λ b. if b then [] else p.forms) e

abbrev nothing_of : Prepared → UnitResult
nothing_of p = record { unit = p; fault = None; sets = []; entries = []; forms = []; exports = []; export_faults = [] }

result_is : (known : Known) (p : Prepared) (i : List Entry × List SetResult) (s : State) → forms_at_work p ≡ [] → p.exports ≡ [] → i ≡ ([], []) →
    (let q = unit_over known (form_trees p.number 0 (forms_at_work p)) s in unit_result p i q.1.table q.0) ≡ nothing_of p
result_is known p i s e x j = rw (e, e, x, j) refl

module _ (all : List Placed) (ps : List Prepared) (known : Known) (alone : Each IsAlone ps) where
  abbrev AllNothing : Progress → Type 0
  AllNothing g = Each ComesToNothing g.results

  module _ (p : Prepared) (g : Progress) (a : IsAlone p) where
    abbrev imports : List Entry × List SetResult
    imports = unit_entries all g.results p

    abbrev start : State
    start = start_of p g.table g.macros (with_entries p.number imports.0 g.entry)

    abbrev came : Option (List Formed) × State
    came = unit_over known (form_trees p.number 0 (forms_at_work p)) start

    abbrev result : UnitResult
    result = unit_result p imports came.1.table came.0

    own_unit : (o : Option (List Formed)) (t : Table) → (unit_result p imports t o).unit ≡ p
    own_unit None t = refl
    own_unit (Some fs) t = refl

    is_part_of : is_part_kind result.unit.placed.source.kind ≡ true → is_part_kind p.placed.source.kind ≡ true
    is_part_of e = ap (λ (x : Prepared). is_part_kind x.placed.source.kind) (sym (own_unit came.0 came.1.table)) ∙ e

    comes_of : is_part_kind p.placed.source.kind ≡ true → IsNothing result × (result.unit.placed.source.lost ≡ [])
    comes_of e =
        let b = a e in
        let is : result ≡ nothing_of p = result_is known p imports start (no_work p e) b.exports (no_entries all g.results p e b) in (
          record {
            sets = ap (λ (r : UnitResult). r.sets) is;
            entries = ap (λ (r : UnitResult). r.entries) is;
            forms = ap (λ (r : UnitResult). r.forms) is;
            exports = ap (λ (r : UnitResult). r.exports) is;
            export_faults = ap (λ (r : UnitResult). r.export_faults) is;
          },
          ap (λ (r : UnitResult). r.unit.placed.source.lost) is ∙ b.lost,
        )

    fault_nothing : (f : Option WholeFault) → AllNothing g → AllNothing (by_fault all ps known p f g)
    fault_nothing (Some f) h = (λ e. (record { sets = refl; entries = refl; forms = refl; exports = refl; export_faults = refl }, (a e).lost), h)
    fault_nothing None h = (λ e. comes_of (is_part_of e), h)

  abbrev OrAlone : Option Prepared → Type 0
  OrAlone None = Unit {0}
  OrAlone (Some p) = IsAlone p

  first_alone : (f : Prepared → Bool) (qs : List Prepared) → Each IsAlone qs → OrAlone (first_ready f qs)
  first_alone f [] h = tt
  first_alone f (q ∷ qs) h = one_of_two OrAlone (f q) (Some q) (first_ready f qs) h.0 (first_alone f qs h.1)

  worked_nothing : (o : Option Prepared) (g : Progress) → OrAlone o → AllNothing g → AllNothing (worked all ps known o g)
  worked_nothing None g a h = h
  worked_nothing (Some p) g a h = fault_nothing p g a (fault_before all ps p) h

  work_nothing : (n : ℕ) (g : Progress) → AllNothing g → AllNothing (work all ps known n g)
  work_nothing zero g h = h
  work_nothing (suc n) g h =
      let o = first_ready (is_ready all ps g.results) ps in
      work_nothing n (worked all ps known o g) (worked_nothing o g (first_alone (is_ready all ps g.results) ps alone) h)

abbrev SomeNothing : Option UnitResult → Type 0
SomeNothing None = Unit {0}
SomeNothing (Some r) = ComesToNothing r

found_nothing : (rs : List UnitResult) (n : ℕ) → Each ComesToNothing rs → SomeNothing (result_at rs n)
found_nothing [] n h = tt
found_nothing (r ∷ rs) n h = one_of_two SomeNothing (r.unit.number == n) (Some r) (result_at rs n) h.0 (found_nothing rs n h.1)

ordered_by : (rs : List UnitResult) (n more : ℕ) (o : Option UnitResult) → result_at rs n ≡ o → SomeNothing o → Each ComesToNothing (in_order rs (suc n) more) → Each ComesToNothing (in_order rs n (suc more))
ordered_by rs n more None e h k = rw e k
ordered_by rs n more (Some r) e h k = rw e (h, k)

ordered_nothing : (rs : List UnitResult) (n more : ℕ) → Each ComesToNothing rs → Each ComesToNothing (in_order rs n more)
ordered_nothing rs n zero h = tt
ordered_nothing rs n (suc more) h = ordered_by rs n more (result_at rs n) refl (found_nothing rs n h) (ordered_nothing rs (suc n) more h)

program_nothing : (ds : List Document) → Each ComesToNothing (program_of ds).units
program_nothing ds =
    let us : List Placed = units_of ds in
    let ps : List Prepared = prepare us 0 us in
    let alone : Each IsAlone ps = prepared_alone us 0 us (all_plain (all_texts (sources_within max_tokens (naming ds) (known_in ds) ds)) (known_in ds) (naming ds) 0 ds) in
    ordered_nothing (work us ps (known_in ds) (length ps) progress_before).results 0 (length ps) (work_nothing us ps (known_in ds) alone (length ps) progress_before tt)

-- ---- what is told of them

nothing_hides : (i : Ident) → hides [] i ≡ false
nothing_hides (Inserted i k) = refl
nothing_hides (Written u s) = refl

none_told : (b c d : Bool) (x : Diagnostic) → c ≡ false → (if b && (c && d) then x ∷ [] else []) ≡ []
none_told true c d x e = ap (λ a. if a && d then x ∷ [] else []) e
none_told false c d x e = refl

none_hidden : (bytes : Occ → Bytes) (unit : ℕ) (fs : List Formed) (table : Table) → hiding_diagnostics bytes unit fs [] table ≡ []
none_hidden bytes unit fs [] = refl
none_hidden bytes unit fs (d ∷ ds) =
    let here = none_told (d.unit == unit) (hides [] d.ident) (not (list_any (is_broken d.form) fs)) (at_bytes (bytes (or_start unit d.form d.occ)) 101 (symbol_of d.ident)) (nothing_hides d.ident) in
    let rest = none_hidden bytes unit fs ds in
    λ j. here j ++ rest j

no_sets : (bytes : Occ → Bytes) (document : ℕ → ℕ) (ss : List ImportSpec) → set_diagnostics bytes document ss [] ≡ []
no_sets bytes document [] = refl
no_sets bytes document (s ∷ ss) = refl

none_told_of : (spans : List (List Span)) (p : Program) (r : UnitResult) → is_part_kind r.unit.placed.source.kind ≡ true → IsNothing r → r.unit.placed.source.lost ≡ [] → unit_diagnostics spans p r None ≡ []
none_told_of spans p r e n l =
    let k = not_program r.unit.placed.source.kind e in
    let a = n.sets in let b = n.entries in let c = n.forms in let d = n.export_faults in
    let z = no_sets (bytes_of spans p.units) (document_of p.units) r.unit.specs in
    let h = none_hidden (bytes_of spans p.units) r.unit.number [] p.table in
    rw (a, b, c, d, l, k, z, h) refl

pub parts_told : (spans : List (List Span)) (ds : List Document) → Each (TellsNothing spans (program_of ds)) (program_of ds).units
parts_told spans ds = go (program_of ds).units (program_nothing ds)
  where
    go : (rs : List UnitResult) → Each ComesToNothing rs → Each (TellsNothing spans (program_of ds)) rs
    go [] h = tt
    go (r ∷ rs) h = (λ e. let n = h.0 e in (n.0, λ f. ap (unit_diagnostics spans (program_of ds) r) f ∙ none_told_of spans (program_of ds) r e n.0 n.1), go rs h.1)
