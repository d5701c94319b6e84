-- What import sets of the code come to is what the definition's sets come to.
use Rattle.std.specs.List.{list_any, zip}
use Rattle.std.proofs.Common.{◌≡◌, ℕ, zero, suc, ◌+◌, ◌<◌, ◌≤◌, Bool, true, false, cond, List, [], ◌∷◌, ◌++◌, append-nil, append_assoc, map, drop, length, slice_get, get_or, Option, Some, None, Result, Ok, refl, sym, ap, ◌∙◌, subst, arith, add-one}
use Rattle.std.specs.Prelude.{reverse, not, ◌&&◌}
use Rattle.std.specs.BTreeMap.{get_by_text}
use Rattle.std.proofs.lemmas.Option.{slice_get_read, slice_get_within}
use Rattle.scheme_model.specs.declared.Occ.{Occ}
use Rattle.scheme_model.specs.Requirements.{LibraryName}
use Rattle.scheme_model.specs.StandardLibraries.{standard}
use Rattle.scheme_model.specs.Entries as model
use Rattle.scheme_model.specs.IncludedUnits.{Placed}
use Rattle.scheme_model.specs.Program.{Prepared, ImportSpec, is_import, is_program, imports_nothing, base_entries, unit_entries, UnitResult, SetResult, Unknown, Faulty, Gives, standard_entry, unit_exports, unit_named, result_at, exports_if, library_exports, with_exports, of_library, after_set, import_all}
use Rattle.scheme_model.specs.Diagnostics.{Diagnostic, Bytes, document_of, at_bytes, bytes_of, bytes_or, datum_bytes, set_found, set_diagnostics, clash_diagnostics, import_fault}
use Rattle.syntax_tree.specs.Names.{Names, KeepsNames}
use Rattle.syntax_tree.specs.Meant.{AreEntries}
use Rattle.syntax_tree.specs.declared.units.Entry.{Entry}
use Rattle.core_tree.specs.Names.{AllMatch}
use Rattle.core_tree.specs.Units.{kind_as, set_errors}
use Rattle.ls_base.specs.declared.places.Span as code_span
use Rattle.import_sets.specs.declared.set.ImportSet as code_set
use Rattle.import_sets.specs.declared.set.SetName.{SetName}
use Rattle.import_sets.specs.declared.fault.ImportFault as code_fault
use Rattle.import_sets.specs.declared.fault.ImportFault.TheVariants as fault
use Rattle.import_sets.specs.declared.gather.Group.{Group}
use Rattle.import_sets.specs.Given.{finished, Gathered, take_all}
use Rattle.import_sets.specs.Sets.{named, IsSet, IsSetOf, TellsApart, Answers, FailsAs}
use Rattle.import_sets.proofs.GatherLaws.{gather_stands}
use Rattle.unit_sources.specs.UnitsRead.{forms_of}
use Rattle.unit_sources.specs.declared.units.ImportSpec as code_spec
use Rattle.unit_sources.specs.declared.units.UnitSource as code_source
use Rattle.unit_imports.specs.declared.entries.Libraries as code
use Rattle.unit_imports.specs.declared.entries.SetGives.{SetGives}
use Rattle.unit_imports.specs.declared.entries.SetGives.TheVariants as gives
use Rattle.read_documents.specs.declared.findings.At.{At}
use Rattle.read_documents.specs.declared.places.Places as code_places
use Rattle.read_documents.specs.Findings.{diagnostic, told_at}
use Rattle.read_documents.specs.Libraries.{library_of}
use Rattle.read_documents.specs.Places.{ArePlaces, bytes_at, number_at, spans_of}
use Rattle.read_documents.specs.Readings.{Read, span_seen}
use Rattle.unit_imports.specs.Joining.{GatheredAs, GroupsStand}
use Rattle.unit_imports.specs.SetsGiven.{AreEntriesIf, AreLibraries, ComesTo, ImportsAs, exports_at, set_exports, with_set}
use Rattle.read_documents.specs.UnitSources.{IsSpec}
use Rattle.scheme_model.specs.DiagnosticTexts.{worded}
use Rattle.unit_imports.proofs.MeaningLaws.{entries_kept}
use Rattle.unit_imports.proofs.SetErrors.{no_set_errors, number_is, set_error_next}

-- ---- the library of a set

-- a set names a library where the code's does, and by its text
pub record NamesOne (t : List ℕ) (spelled : LibraryName → List ℕ) (s : model.ImportSet) : Type 0 where
  pub name : LibraryName
  pub is : model.library_in s ≡ Some name
  pub text : t ≡ spelled name

abbrev NamesAs : Option (List ℕ) → (LibraryName → List ℕ) → model.ImportSet → Type 0
NamesAs None spelled s = model.library_in s ≡ None
NamesAs (Some t) spelled s = NamesOne t spelled s

named_inside : (o : Option (List ℕ)) (spelled : LibraryName → List ℕ) (s inner : model.ImportSet) → model.library_in s ≡ model.library_in inner → NamesAs o spelled inner → NamesAs o spelled s
named_inside None spelled s inner e h = e ∙ h
named_inside (Some t) spelled s inner e h = record { name = h.name; is = e ∙ h.is; text = h.text }

names_as : (spelled : LibraryName → List ℕ) (c : code_set.ImportSet) (s : model.ImportSet) → IsSetOf (λ t n. t ≡ spelled n) c s → NamesAs (library_of c) spelled s
names_as spelled (code_set.Library t) s h = record { name = h.0; is = ap model.library_in h.1.0; text = h.1.1 }
names_as spelled (code_set.Only' p c ns) s h = named_inside (library_of c) spelled s h.0 (ap model.library_in h.1.0) (names_as spelled c h.0 h.1.1)
names_as spelled (code_set.Except' p c ns) s h = named_inside (library_of c) spelled s h.0 (ap model.library_in h.1.0) (names_as spelled c h.0 h.1.1)
names_as spelled (code_set.Prefix' p c t) s h = named_inside (library_of c) spelled s h.0 (ap model.library_in h.1.0) (names_as spelled c h.0 h.1.1)
names_as spelled (code_set.Rename' p c ps) s h = named_inside (library_of c) spelled s h.0 (ap model.library_in h.1.0) (names_as spelled c h.0 h.1.1)
names_as spelled code_set.Bad s h = ap model.library_in h

pub names_one : (spelled : LibraryName → List ℕ) (c : code_set.ImportSet) (s : model.ImportSet) → IsSetOf (λ t n. t ≡ spelled n) c s → (t : List ℕ) → library_of c ≡ Some t → NamesOne t spelled s
names_one spelled c s h t e = subst (λ (o : Option (List ℕ)). NamesAs o spelled s) e (names_as spelled c s h)

pub names_no : (spelled : LibraryName → List ℕ) (c : code_set.ImportSet) (s : model.ImportSet) → IsSetOf (λ t n. t ≡ spelled n) c s → library_of c ≡ None → model.library_in s ≡ None
names_no spelled c s h e = subst (λ (o : Option (List ℕ)). NamesAs o spelled s) e (names_as spelled c s h)

-- whatever its name
pub set_as : (spelled : LibraryName → List ℕ) (c : code_set.ImportSet) (s : model.ImportSet) → IsSetOf (λ t n. t ≡ spelled n) c s → IsSet c s
set_as spelled (code_set.Library t) s h = (h.0, (h.1.0, tt))
set_as spelled (code_set.Only' p c ns) s h = (h.0, (h.1.0, set_as spelled c h.0 h.1.1))
set_as spelled (code_set.Except' p c ns) s h = (h.0, (h.1.0, set_as spelled c h.0 h.1.1))
set_as spelled (code_set.Prefix' p c t) s h = (h.0, (h.1.0, set_as spelled c h.0 h.1.1))
set_as spelled (code_set.Rename' p c ps) s h = (h.0, (h.1.0, set_as spelled c h.0 h.1.1))
set_as spelled code_set.Bad s h = h

-- ---- what libraries export

if_kept : (old new : Names) → KeepsNames old new → (o : Option (List Entry)) (ds : Option (List model.Entry)) → AreEntriesIf old o ds → AreEntriesIf new o ds
if_kept old new k None ds h = h
if_kept old new k (Some es) ds h = (h.0, h.1, entries_kept old new k es h.0 h.2)

pub libraries_kept : (old new : Names) → KeepsNames old new → (c : code.Libraries) (spelled : LibraryName → List ℕ) (all : List Placed) (rs : List UnitResult) → AreLibraries old c spelled all rs →
    AreLibraries new c spelled all rs
libraries_kept old new k c spelled all rs h = record {
  spells = h.spells;
  units = h.units;
  exports = λ n. if_kept old new k (exports_at c.expanded.now (Some n)) (exports_if (result_at rs n)) (h.exports n);
}

-- a unit's exports by its library's name
pub exports_named : (names : Names) (c : code.Libraries) (spelled : LibraryName → List ℕ) (all : List Placed) (rs : List UnitResult) → AreLibraries names c spelled all rs → (n : LibraryName) (t : List ℕ) → t ≡ spelled n →
    AreEntriesIf names (exports_at c.expanded.now (get_by_text c.firsts.now t)) (unit_exports rs (unit_named n 0 all))
exports_named names c spelled all rs h n t e =
    subst (λ (o : Option ℕ). AreEntriesIf names (exports_at c.expanded.now o) (unit_exports rs (unit_named n 0 all))) (sym (ap (get_by_text c.firsts.now) e ∙ h.units n)) (go (unit_named n 0 all))
  where
    go : (o : Option ℕ) → AreEntriesIf names (exports_at c.expanded.now o) (unit_exports rs o)
    go None = refl
    go (Some n) = h.exports n

-- what a library exports, where it is a standard one, and where it is a unit
pub standard_exports : (all : List Placed) (rs : List UnitResult) (n : LibraryName) (ss : List (List ℕ)) → Some ss ≡ standard n → library_exports all rs n (standard n) ≡ Some (map standard_entry ss)
standard_exports all rs n ss e = ap (library_exports all rs n) (sym e)

pub other_exports : (all : List Placed) (rs : List UnitResult) (n : LibraryName) → None ≡ standard n → library_exports all rs n (standard n) ≡ unit_exports rs (unit_named n 0 all)
other_exports all rs n e = ap (library_exports all rs n) (sym e)

pub standard_if : (names : Names) (all : List Placed) (rs : List UnitResult) (n : LibraryName) (ss : List (List ℕ)) (es : List Entry) → Some ss ≡ standard n → AreEntries names es (map standard_entry ss) →
    AreEntriesIf names (Some es) (library_exports all rs n (standard n))
standard_if names all rs n ss es e h = (map standard_entry ss, standard_exports all rs n ss e, h)

-- the exports that were found, or none
pub others_if : (names : Names) (all : List Placed) (rs : List UnitResult) (n : LibraryName) (o : Option (List Entry)) → None ≡ standard n → AreEntriesIf names o (unit_exports rs (unit_named n 0 all)) →
    AreEntriesIf names o (library_exports all rs n (standard n))
others_if names all rs n o e h = subst (AreEntriesIf names o) (sym (other_exports all rs n e)) h

pub of_name : (names : Names) (all : List Placed) (rs : List UnitResult) (s : model.ImportSet) (n : LibraryName) (o : Option (List Entry)) → model.library_in s ≡ Some n → AreEntriesIf names o (library_exports all rs n (standard n)) →
    AreEntriesIf names o (set_exports all rs (model.library_in s))
of_name names all rs s n o e h = subst (λ (m : Option LibraryName). AreEntriesIf names o (set_exports all rs m)) (sym e) h

pub of_none : (all : List Placed) (rs : List UnitResult) (s : model.ImportSet) → model.library_in s ≡ None → set_exports all rs (model.library_in s) ≡ None
of_none all rs s e = ap (set_exports all rs) e

pub if_there : (names : Names) (es fs : List Entry) (o : Option (List Entry)) (ds : Option (List model.Entry)) → o ≡ Some es → fs ≡ es → AreEntriesIf names o ds → AreEntriesIf names (Some fs) ds
if_there names es fs o ds e same h =
    subst (λ (xs : List Entry). AreEntriesIf names (Some xs) ds) (sym same) (subst (λ (x : Option (List Entry)). AreEntriesIf names x ds) e h)

-- bytes of a document
abbrev pub seen_at : ℕ → code_span.Span → Bytes
seen_at document span = record { document = document; span = span_seen span }

-- ---- one set

pub comes_chosen : (names : Names) (c : code_set.ImportSet) (s : model.ImportSet) (es : List Entry) (ds : List model.Entry) → Answers names (Ok es) (model.entries_of s ds) →
    ComesTo names (gives.Entries es) (λ before. after_set before (model.entries_of s ds))
comes_chosen names c s es ds h = (h.0, h.1.1, λ before. ap (after_set before) h.1.0)

pub comes_faulty : (names : Names) (e : code_fault.ImportFault) (r : Result (List model.Entry) model.ImportFault) → (e ≡ fault.Memory → ⊥) → FailsAs e r → ComesTo names (gives.Faulty e) (λ before. after_set before r)
comes_faulty names fault.Memory r never h = absurd (never refl)
comes_faulty names (fault.NotThere n) r never h = (model.NotThere (named n), refl, λ before. ap (after_set before) h)
comes_faulty names (fault.Clash s) r never h = (model.Clash s, refl, λ before. ap (after_set before) h)
comes_faulty names fault.BadSet r never h = (model.BadSet, refl, λ before. ap (after_set before) h)

pub comes_as : (names : Names) (g : SetGives) (f h : List model.Entry → List model.Entry × SetResult) → ((before : List model.Entry) → h before ≡ f before) → ComesTo names g f → ComesTo names g h
comes_as names (gives.Entries es) f h e k = (k.0, k.1, λ before. e before ∙ k.2 before)
comes_as names gives.Unknown f h e k = λ before. e before ∙ k before
comes_as names (gives.Faulty x) f h e k = (k.0, k.1, λ before. e before ∙ k.2 before)

-- a set with no library, one whose library exports nothing, and one whose library exports these
pub set_bad : (all : List Placed) (rs : List UnitResult) (s : model.ImportSet) → model.library_in s ≡ None → (before : List model.Entry) → with_set all rs s before ≡ (before, Faulty model.BadSet)
set_bad all rs s e before = ap (of_library all rs before s) e

of_exports : (all : List Placed) (rs : List UnitResult) (s : model.ImportSet) (before : List model.Entry) (e : Option (List model.Entry)) (n : LibraryName) → model.library_in s ≡ Some n → library_exports all rs n (standard n) ≡ e →
    with_set all rs s before ≡ with_exports before s e
of_exports all rs s before e n is h = ap (of_library all rs before s) is ∙ ap (with_exports before s) h

pub set_unknown : (all : List Placed) (rs : List UnitResult) (s : model.ImportSet) (n : LibraryName) → model.library_in s ≡ Some n → library_exports all rs n (standard n) ≡ None →
    (before : List model.Entry) → with_set all rs s before ≡ (before, Unknown)
set_unknown all rs s n is h before = of_exports all rs s before None n is h

pub set_known : (all : List Placed) (rs : List UnitResult) (s : model.ImportSet) (n : LibraryName) (es : List model.Entry) → model.library_in s ≡ Some n → library_exports all rs n (standard n) ≡ Some es →
    (before : List model.Entry) → with_set all rs s before ≡ after_set before (model.entries_of s es)
set_known all rs s n es is h before = of_exports all rs s before (Some es) n is h

-- ---- put together

pub gathered_as : (names : Names) → TellsApart names → (g : Gathered) (es : List Entry) (ds xs : List model.Entry) → g.clashes ≡ [] → GroupsStand names g.groups ds → AreEntries names es xs →
    GatheredAs names (take_all g es) (model.gather ds xs [])
gathered_as names apart g es ds xs none are more =
    let r = gather_stands names apart es xs more g ds are [] (ap reverse none) in record { groups = r.groups; clashes = r.clashes }

pub groups_on : (old new : Names) → KeepsNames old new → (gs : List Group) (es : List model.Entry) → GroupsStand old gs es → GroupsStand new gs es
groups_on old new k gs es h = entries_kept old new k (map finished gs) es h

-- what is put together after a set, and what is told of it
pub groups_after : (names : Names) (gs : List Group) (s t : List model.Entry × SetResult) → s ≡ t → GroupsStand names gs t.0 → GroupsStand names gs s.0
groups_after names gs s t e h = subst (λ (p : List model.Entry × SetResult). GroupsStand names gs p.0) (sym e) h

pub told_after : (bytes : Occ → Bytes) (document : ℕ) (spec : ImportSpec) (old new : List Diagnostic) (s t : List model.Entry × SetResult) → s ≡ t → new ≡ old ++ set_found bytes document spec t.1 →
    new ≡ old ++ set_found bytes document spec s.1
told_after bytes document spec old new s t e h = h ∙ ap (λ (p : List model.Entry × SetResult). old ++ set_found bytes document spec p.1) (sym e)

-- ---- all sets

pub drop_at : {A : Type 0} (xs : List A) (n : ℕ) (x : A) → slice_get xs n ≡ Some x → drop n xs ≡ x ∷ drop (n + 1) xs
drop_at [] n x h = absurd cc
drop_at (y ∷ xs) zero x h = let same : y ≡ x = cc in ap (λ z. z ∷ xs) same
drop_at {A} (y ∷ xs) (suc n) x h = let e : suc (n + 1) ≡ suc n + 1 = omega arith in drop_at xs n x h ∙ ap (λ (k : ℕ). x ∷ drop k (y ∷ xs)) e

abbrev told_of : code_places.Places → List Read → List UnitResult → List ImportSpec → List SetResult → List Diagnostic
told_of places reads us ss rs = set_diagnostics (bytes_of (spans_of reads) us) (document_of us) ss rs

-- what one of them gave
abbrev told_one : List Read → List UnitResult → ImportSpec → SetResult → List Diagnostic
told_one reads us s r = set_found (bytes_of (spans_of reads) us) (document_of us s.unit) s r

-- what the sets so far gave, and what those that are left are to give
pub record SetsSoFar (names : Names) (gs : List Group) (before now : List Diagnostic) (places : code_places.Places) (all : List Placed) (rs : List UnitResult) (whole rest : List ImportSpec) : Type 0 where
  pub es : List model.Entry
  pub stand : GroupsStand names gs es
  pub entries : (import_all all rs es rest).0 ≡ (import_all all rs [] whole).0
  pub found : (reads : List Read) (us : List UnitResult) → ArePlaces places reads us →
      now ++ told_of places reads us rest (import_all all rs es rest).1 ≡ before ++ told_of places reads us whole (import_all all rs [] whole).1

pub sets_begin : (names : Names) (gs : List Group) (before : List Diagnostic) (places : code_places.Places) (all : List Placed) (rs : List UnitResult) (whole : List ImportSpec) → gs ≡ [] →
    SetsSoFar names gs before before places all rs whole whole
sets_begin names gs before places all rs whole none = record {
  es = [];
  stand = subst (λ (hs : List Group). GroupsStand names hs []) (sym none) tt;
  entries = refl;
  found = λ reads us are. refl;
}

pub sets_next : (old new : Names) (gs hs : List Group) (before now more : List Diagnostic) (places : code_places.Places) (all : List Placed) (rs : List UnitResult) (whole : List ImportSpec) (i : ℕ) (s : ImportSpec) →
    slice_get whole i ≡ Some s → (h : SetsSoFar old gs before now places all rs whole (drop i whole)) → GroupsStand new hs (with_set all rs s.set h.es).0 →
    ((reads : List Read) (us : List UnitResult) → ArePlaces places reads us → more ≡ now ++ told_one reads us s (with_set all rs s.set h.es).1) →
    SetsSoFar new hs before more places all rs whole (drop (i + 1) whole)
sets_next old new gs hs before now more places all rs whole i s at h stand n = record {
  es = q.0;
  stand = stand;
  entries = sym (ap (λ (l : List ImportSpec). (import_all all rs h.es l).0) split) ∙ h.entries;
  found = λ reads us are.
      ap (λ (ds : List Diagnostic). ds ++ told_of places reads us (drop (i + 1) whole) rest.1) (n reads us are)
      ∙ append_assoc now (told_one reads us s q.1) (told_of places reads us (drop (i + 1) whole) rest.1)
      ∙ sym (ap (λ (l : List ImportSpec). now ++ told_of places reads us l (import_all all rs h.es l).1) split) ∙ h.found reads us are;
}
  where
    q : List model.Entry × SetResult
    q = with_set all rs s.set h.es

    rest : List model.Entry × List SetResult
    rest = import_all all rs q.0 (drop (i + 1) whole)

    split : drop i whole ≡ s ∷ drop (i + 1) whole
    split = drop_at whole i s at

-- the same with their Errors, by the forms of the sets
pub record SetsTold (names : Names) (gs : List Group) (before now : List Diagnostic) (places : code_places.Places) (all : List Placed) (rs : List UnitResult) (whole rest : List ImportSpec) (whole_forms rest_forms : List ℕ) (errors_before errors_now : List (ℕ × ℕ)) : Type 0 where
  pub sets : SetsSoFar names gs before now places all rs whole rest
  pub errors : length whole_forms ≡ length whole → errors_now ++ set_errors (zip rest_forms (import_all all rs sets.es rest).1) ≡ errors_before ++ set_errors (zip whole_forms (import_all all rs [] whole).1)

pub sets_told_begin : (names : Names) (gs : List Group) (before : List Diagnostic) (places : code_places.Places) (all : List Placed) (rs : List UnitResult) (whole : List ImportSpec) (fs : List ℕ) (es : List (ℕ × ℕ)) → gs ≡ [] →
    SetsTold names gs before before places all rs whole whole fs fs es es
unfolding sets_begin
sets_told_begin names gs before places all rs whole fs es none = record { sets = sets_begin names gs before places all rs whole none; errors = λ many. refl }

pub sets_told_next : (old new : Names) (gs hs : List Group) (before now more : List Diagnostic) (places : code_places.Places) (all : List Placed) (rs : List UnitResult) (whole : List ImportSpec) (i : ℕ) (s : ImportSpec) (fs : List ℕ) (es es_now es_more : List (ℕ × ℕ)) →
    slice_get whole i ≡ Some s → (h : SetsTold old gs before now places all rs whole (drop i whole) fs (drop i fs) es es_now) → GroupsStand new hs (with_set all rs s.set h.sets.es).0 →
    ((reads : List Read) (us : List UnitResult) → ArePlaces places reads us → more ≡ now ++ told_one reads us s (with_set all rs s.set h.sets.es).1) →
    es_more ≡ es_now ++ set_errors ((number_at fs i, (with_set all rs s.set h.sets.es).1) ∷ []) →
    SetsTold new hs before more places all rs whole (drop (i + 1) whole) fs (drop (i + 1) fs) es es_more
unfolding sets_next
sets_told_next old new gs hs before now more places all rs whole i s fs es es_now es_more at h stand n one = record {
  sets = sets_next old new gs hs before now more places all rs whole i s at h.sets stand n;
  errors = λ many.
      let within = slice_get_within whole i s at in
      let q = with_set all rs s.set h.sets.es in
      let split = drop_at whole i s at in
      set_error_next fs i (i + 1) (add-one i) (number_at fs i) (number_is fs i (omega arith)) q.1 (import_all all rs q.0 (drop (i + 1) whole)).1 es_now es_more (es ++ set_errors (zip fs (import_all all rs [] whole).1)) one
      (sym (ap (λ (l : List ImportSpec). es_now ++ set_errors (zip (drop i fs) (import_all all rs h.sets.es l).1)) split) ∙ h.errors many);
}

-- nothing is left
pub record SetsDone (names : Names) (gs : List Group) (before now : List Diagnostic) (places : code_places.Places) (all : List Placed) (rs : List UnitResult) (whole : List ImportSpec) : Type 0 where
  pub stand : GroupsStand names gs (import_all all rs [] whole).0
  pub found : (reads : List Read) (us : List UnitResult) → ArePlaces places reads us → now ≡ before ++ told_of places reads us whole (import_all all rs [] whole).1

pub sets_done : (names : Names) (gs : List Group) (before now : List Diagnostic) (places : code_places.Places) (all : List Placed) (rs : List UnitResult) (whole rest : List ImportSpec) → rest ≡ [] →
    SetsSoFar names gs before now places all rs whole rest → SetsDone names gs before now places all rs whole
sets_done names gs before now places all rs whole rest none h = record {
  stand = subst (GroupsStand names gs) (ap (λ (l : List ImportSpec). (import_all all rs h.es l).0) (sym none) ∙ h.entries) h.stand;
  found = λ reads us are.
      sym (append-nil now) ∙ ap (λ (l : List ImportSpec). now ++ told_of places reads us l (import_all all rs h.es l).1) (sym none) ∙ h.found reads us are;
}

-- ---- what one set is told as

whole_is : (document : ℕ) (spelled : LibraryName → List ℕ) (c : code_spec.ImportSpec) (s : ImportSpec) → IsSpec spelled c s → seen_at document c.span ≡ datum_bytes document s.whole
whole_is document spelled c s h = ap (seen_at document) h.whole

pub gives_told : (bytes : Occ → Bytes) (document : ℕ) (spelled : LibraryName → List ℕ) (c : code_spec.ImportSpec) (s : ImportSpec) → IsSpec spelled c s → (es : List model.Entry) (clashes : List (List ℕ)) (old new : List Diagnostic) →
    new ≡ old ++ clash_diagnostics (seen_at document c.span) clashes → new ≡ old ++ set_found bytes document s (Gives es clashes)
gives_told bytes document spelled c s h es clashes old new e =
    e ∙ ap (λ (b : Bytes). old ++ clash_diagnostics b clashes) (whole_is document spelled c s h)

pub faulty_told : (bytes : Occ → Bytes) (document : ℕ) (spelled : LibraryName → List ℕ) (c : code_spec.ImportSpec) (s : ImportSpec) → IsSpec spelled c s → (f : model.ImportFault) (old new : List Diagnostic) →
    new ≡ old ++ import_fault bytes (seen_at document c.span) f ∷ [] → new ≡ old ++ set_found bytes document s (Faulty f)
faulty_told bytes document spelled c s h f old new e =
    e ∙ ap (λ (b : Bytes). old ++ import_fault bytes b f ∷ []) (whole_is document spelled c s h)

pub unknown_told : (bytes : Occ → Bytes) (document : ℕ) (spelled : LibraryName → List ℕ) (c : code_spec.ImportSpec) (s : ImportSpec) → IsSpec spelled c s → (old new : List Diagnostic) →
    new ≡ old ++ at_bytes (seen_at document c.library) 102 [] ∷ [] → new ≡ old ++ set_found bytes document s Unknown
unknown_told bytes document spelled c s h old new e = e ∙ ap (λ (b : Bytes). old ++ at_bytes b 102 [] ∷ []) (ap (seen_at document) h.library)

-- ---- a unit

pub nothing_same : (spelled : LibraryName → List ℕ) (c : code_source.UnitSource) (p : Prepared) → ImportsAs spelled c p → (is_program (kind_as c.kind) && not (list_any is_import (forms_of c.forms))) ≡ imports_nothing p
nothing_same spelled c p h = (λ j. is_program (h.kind j) && not (list_any is_import (sym h.forms j)))

pub base_case : (all : List Placed) (rs : List UnitResult) (p : Prepared) → imports_nothing p ≡ true → unit_entries all rs p ≡ (base_entries, [])
base_case all rs p h = ap (λ (b : Bool). cond b (base_entries, []) (import_all all rs [] p.specs)) h

pub sets_case : (all : List Placed) (rs : List UnitResult) (p : Prepared) → imports_nothing p ≡ false → unit_entries all rs p ≡ import_all all rs [] p.specs
sets_case all rs p h = ap (λ (b : Bool). cond b (base_entries, []) (import_all all rs [] p.specs)) h

pub no_results : (bytes : Occ → Bytes) (document : ℕ → ℕ) (ss : List ImportSpec) → set_diagnostics bytes document ss [] ≡ []
no_results bytes document [] = refl
no_results bytes document (s ∷ ss) = refl

-- ---- what a fault is told as

pub missing_told : (old new : List Diagnostic) (at : At) (n : SetName) (name : List ℕ) (bytes : Occ → Bytes) (set : Bytes) (f : model.ImportFault) → f ≡ model.NotThere (named n) → bytes_at at ≡ bytes_or bytes set n.occ → name ≡ n.name →
    new ≡ old ++ told_at (Some at) 51 (worded 51 name) → new ≡ old ++ import_fault bytes set f ∷ []
missing_told old new at n name bytes set f is h same e =
    e ∙ (λ j. old ++ at_bytes (h j) 51 (same j) ∷ []) ∙ ap (λ (g : model.ImportFault). old ++ import_fault bytes set g ∷ []) (sym is)

pub clash_fault_told : (old new : List Diagnostic) (document : ℕ) (span : code_span.Span) (at : At) (s name : List ℕ) (bytes : Occ → Bytes) (f : model.ImportFault) → f ≡ model.Clash s → at ≡ record { document = document; span = span } → name ≡ s →
    new ≡ old ++ told_at (Some at) 52 (worded 52 name) → new ≡ old ++ import_fault bytes (seen_at document span) f ∷ []
clash_fault_told old new document span at s name bytes f is where_is same e =
    e ∙ (λ j. old ++ diagnostic (where_is j) 52 (worded 52 (same j)) ∷ []) ∙ ap (λ (g : model.ImportFault). old ++ import_fault bytes (seen_at document span) g ∷ []) (sym is)

pub bad_set_told : (old new : List Diagnostic) (document : ℕ) (span : code_span.Span) (at : At) (bytes : Occ → Bytes) (f : model.ImportFault) → f ≡ model.BadSet → at ≡ record { document = document; span = span } →
    new ≡ old ++ told_at (Some at) 53 (worded 53 []) → new ≡ old ++ import_fault bytes (seen_at document span) f ∷ []
bad_set_told old new document span at bytes f is where_is e =
    e ∙ ap (λ (a : At). old ++ diagnostic a 53 (worded 53 []) ∷ []) where_is ∙ ap (λ (g : model.ImportFault). old ++ import_fault bytes (seen_at document span) g ∷ []) (sym is)

-- ---- a unit that imports nothing, and one that imports something

pub nothing_is : (spelled : LibraryName → List ℕ) (c : code_source.UnitSource) (p : Prepared) → ImportsAs spelled c p → (b d : Bool) → b ≡ (is_program (kind_as c.kind) && not (list_any is_import (forms_of c.forms))) → b ≡ d → imports_nothing p ≡ d
nothing_is spelled c p im b d e h = sym (nothing_same spelled c p im) ∙ sym e ∙ h

pub base_stands : (names : Names) (gs : List Group) (all : List Placed) (rs : List UnitResult) (p : Prepared) (spelled : LibraryName → List ℕ) (c : code_source.UnitSource) → ImportsAs spelled c p → (b : Bool) → b ≡ (is_program (kind_as c.kind) && not (list_any is_import (forms_of c.forms))) → b ≡ true →
    GroupsStand names gs base_entries → GroupsStand names gs (unit_entries all rs p).0
base_stands names gs all rs p spelled c im b e h stand =
    subst (λ (q : List model.Entry × List SetResult). GroupsStand names gs q.0) (sym (base_case all rs p (nothing_is spelled c p im b true e h))) stand

pub base_told : (bytes : Occ → Bytes) (document : ℕ → ℕ) (ds : List Diagnostic) (all : List Placed) (rs : List UnitResult) (p : Prepared) (spelled : LibraryName → List ℕ) (c : code_source.UnitSource) → ImportsAs spelled c p → (b : Bool) → b ≡ (is_program (kind_as c.kind) && not (list_any is_import (forms_of c.forms))) → b ≡ true →
    ds ≡ ds ++ set_diagnostics bytes document p.specs (unit_entries all rs p).1
base_told bytes document ds all rs p spelled c im b e h =
    sym (append-nil ds) ∙ ap (λ (xs : List Diagnostic). ds ++ xs) (sym (no_results bytes document p.specs))
    ∙ ap (λ (q : List model.Entry × List SetResult). ds ++ set_diagnostics bytes document p.specs q.1) (sym (base_case all rs p (nothing_is spelled c p im b true e h)))

pub sets_stand : (names : Names) (gs : List Group) (all : List Placed) (rs : List UnitResult) (p : Prepared) (spelled : LibraryName → List ℕ) (c : code_source.UnitSource) → ImportsAs spelled c p → (b : Bool) → b ≡ (is_program (kind_as c.kind) && not (list_any is_import (forms_of c.forms))) → b ≡ false →
    GroupsStand names gs (import_all all rs [] p.specs).0 → GroupsStand names gs (unit_entries all rs p).0
sets_stand names gs all rs p spelled c im b e h stand =
    subst (λ (q : List model.Entry × List SetResult). GroupsStand names gs q.0) (sym (sets_case all rs p (nothing_is spelled c p im b false e h))) stand

pub sets_told : (bytes : Occ → Bytes) (document : ℕ → ℕ) (old new : List Diagnostic) (all : List Placed) (rs : List UnitResult) (p : Prepared) (spelled : LibraryName → List ℕ) (c : code_source.UnitSource) → ImportsAs spelled c p → (b : Bool) → b ≡ (is_program (kind_as c.kind) && not (list_any is_import (forms_of c.forms))) → b ≡ false →
    new ≡ old ++ set_diagnostics bytes document p.specs (import_all all rs [] p.specs).1 → new ≡ old ++ set_diagnostics bytes document p.specs (unit_entries all rs p).1
sets_told bytes document old new all rs p spelled c im b e h told =
    told ∙ ap (λ (q : List model.Entry × List SetResult). old ++ set_diagnostics bytes document p.specs q.1) (sym (sets_case all rs p (nothing_is spelled c p im b false e h)))

-- the Errors, by the forms of the sets
pub base_errors : (es : List (ℕ × ℕ)) (all : List Placed) (rs : List UnitResult) (p : Prepared) (spelled : LibraryName → List ℕ) (c : code_source.UnitSource) → ImportsAs spelled c p → (b : Bool) → b ≡ (is_program (kind_as c.kind) && not (list_any is_import (forms_of c.forms))) → b ≡ true → (fs : List ℕ) →
    es ≡ es ++ set_errors (zip fs (unit_entries all rs p).1)
base_errors es all rs p spelled c im b e h fs =
    sym (append-nil es) ∙ ap (λ (xs : List (ℕ × ℕ)). es ++ xs) (sym (no_set_errors fs))
    ∙ ap (λ (q : List model.Entry × List SetResult). es ++ set_errors (zip fs q.1)) (sym (base_case all rs p (nothing_is spelled c p im b true e h)))

pub sets_errors : (old new : List (ℕ × ℕ)) (all : List Placed) (rs : List UnitResult) (p : Prepared) (spelled : LibraryName → List ℕ) (c : code_source.UnitSource) → ImportsAs spelled c p → (b : Bool) → b ≡ (is_program (kind_as c.kind) && not (list_any is_import (forms_of c.forms))) → b ≡ false → (fs : List ℕ) →
    new ≡ old ++ set_errors (zip fs (import_all all rs [] p.specs).1) → new ≡ old ++ set_errors (zip fs (unit_entries all rs p).1)
sets_errors old new all rs p spelled c im b e h fs told =
    told ∙ ap (λ (q : List model.Entry × List SetResult). old ++ set_errors (zip fs q.1)) (sym (sets_case all rs p (nothing_is spelled c p im b false e h)))

-- ---- at the end of a list

pub drop_past : {A : Type 0} (xs : List A) (n : ℕ) → length xs ≤ n → drop n xs ≡ []
drop_past [] zero h = refl
drop_past [] (suc n) h = refl
drop_past (x ∷ xs) zero h = absurd (omega arith)
drop_past (x ∷ xs) (suc n) h = drop_past xs n (omega arith)

as_many : {X Y : Type 0} (P : X → Y → Type 0) (xs : List X) (ys : List Y) → AllMatch P xs ys → length xs ≡ length ys
as_many P [] [] h = refl
as_many P [] (y ∷ ys) h = absurd h
as_many P (x ∷ xs) [] h = absurd h
as_many P (x ∷ xs) (y ∷ ys) h = ap suc (as_many P xs ys h.1)

pub none_left : {X Y : Type 0} (P : X → Y → Type 0) (xs : List X) (ys : List Y) (n : ℕ) → AllMatch P xs ys → length xs ≤ n → drop n ys ≡ []
none_left P xs ys n h le = drop_past ys n (let e = as_many P xs ys h in omega arith)

pub item_at : {A : Type 0} (xs : List A) (i : ℕ) (x : A) → i < length xs → x ≡ get_or xs i x → slice_get xs i ≡ Some x
item_at xs i x lt e = slice_get_read xs (length xs) i x refl lt e
