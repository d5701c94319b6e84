-- Units that are put together by what they came to are those of the definition's program.
use Rattle.std.proofs.Common.{◌≡◌, ℕ, zero, suc, ◌+◌, ◌<◌, List, [], ◌∷◌, ◌++◌, All, length, map, slice_get, Option, Some, None, refl, sym, ap, ◌∙◌, subst, arith}
use Rattle.std.specs.Prelude.{reverse}
use Rattle.std.specs.List.{flat_map}
use Rattle.std.proofs.lemmas.List.{length-map}
use Rattle.std.proofs.lemmas.Option.{slice_get_within}
use Rattle.scheme_model.specs.Requirements.{Known, LibraryName}
use Rattle.scheme_model.specs.Declarations.{UnitForm}
use Rattle.scheme_model.specs.Substitution.{Defined}
use Rattle.scheme_model.specs.UnitExpansion.{Formed}
use Rattle.scheme_model.specs.IncludedUnits.{Placed}
use Rattle.scheme_model.specs.Program.{Prepared, prepare, WholeFault, UnitResult, Program, broken_result}
use Rattle.scheme_model.specs.ProgramArrows.{unit_names}
use Rattle.scheme_model.specs.Spelling.{second_places}
use Rattle.scheme_model.specs.ScopedProgram.{scoped_program_with}
use Rattle.syntax_tree.specs.Meant.{AreEntries}
use Rattle.syntax_tree.specs.declared.trees.Work.{Work}
use Rattle.syntax_tree.specs.declared.units.Entry.{Entry}
use Rattle.core_tree.specs.Units.{IsBlank, FormsStand, AreDefinitions, definitions_from, defined_by, AreNames, externals, error_as, unit_errors, kind_as, UnitStands, UnitsStand, seconds_of, unless_broken, ranges_from}
use Rattle.core_tree.specs.declared.cores.Binder.{Binder}
use Rattle.core_tree.specs.declared.units.NameUse as code_name
use Rattle.core_tree.specs.declared.units.UnitForm as core
use Rattle.core_tree.specs.declared.units.Unit as code
use Rattle.unit_sources.specs.UnitsRead.{form_of, forms_of}
use Rattle.unit_sources.specs.declared.units.UnitSource.{UnitSource}
use Rattle.program_expansion.specs.UnitResults.{CameTo, ComesTo, HaveCome}
use Rattle.read_documents.specs.UnitSources.{AreSourcesOf}
use Rattle.unit_imports.specs.Collected.{IsCollected, AreCollected, IsHeadOf, AreHeadsOf}
use Rattle.read_documents.specs.UnitFindings.{HaveErrors}
use Rattle.document_units.specs.Turned.{turns, scoped_at}
use Rattle.unit_imports.specs.declared.expanded.Expanded.{Expanded}
use Rattle.read_documents.specs.declared.heads.Head.{Head}
use Rattle.program_expansion.proofs.ProgramOf.{comes_last, defined_whole, defined_broken, unit_prepared, units_stand}
use Rattle.document_units.proofs.TurnGraph.{as_many}
use Rattle.program_expansion.proofs.TurnResults.{scoped_units}
use Rattle.unit_results.proofs.ReadingLaws.{get}
use Rattle.unit_imports.proofs.Collecting.{blank_stand}

pub blank_define : (form : ℕ) (cs : List core.UnitForm) → All IsBlank cs → definitions_from form cs ≡ []
blank_define form [] h = refl
blank_define form (c ∷ cs) h =
    ap (λ (bs : List Binder). map (λ (b : Binder). (form, b)) bs ++ definitions_from (suc form) cs) ((h 0 c (omega arith)).definitions) ∙ blank_define (suc form) cs (λ k d lt. h (suc k) d (omega arith))

no_names : (work : Work) (n : ℕ) → AreNames work.symbols n [] [] []
no_names work n = record { told = []; match = tt; same = λ m. (λ h. h, λ h. h); front = []; last = []; parted = refl; external = tt }

-- the second places of a unit's sets, and none of a broken one
seconds_whole : (r : UnitResult) → r.fault ≡ None → seconds_of r ≡ flat_map (λ s. second_places s.set) r.unit.specs
seconds_whole r h = ap (λ (f : Option WholeFault). unless_broken f (flat_map (λ s. second_places s.set) r.unit.specs)) h

seconds_broken : (r : UnitResult) (f : WholeFault) → r.fault ≡ Some f → seconds_of r ≡ []
seconds_broken r f h = ap (λ (o : Option WholeFault). unless_broken o (flat_map (λ s. second_places s.set) r.unit.specs)) h

module _ (text : LibraryName → List ℕ) (uris : List (List ℕ)) (us : List Placed) (known : Known) (work : Work) where
  abbrev whole : Program
  whole = scoped_program_with us (prepare us 0 us) known

  module _ (n : ℕ) (h : Head) (s : UnitSource) (c : code.Unit) (r : UnitResult) (at : slice_get whole.units n ≡ Some r) (own : r.unit.number ≡ n) (head : IsHeadOf text r.unit h) (source : r.unit.forms ≡ forms_of s.forms)
      (errors : map error_as c.errors ≡ unit_errors r) where
    came_stands : (e : Expanded) → IsCollected uris h s (Some e) c → CameTo us whole work e r → UnitStands work text uris us whole n c r
    came_stands e k m = record {
      number = own;
      uri = ap (slice_get uris) (sym head.document) ∙ k.uri;
      kind = ap kind_as k.kind ∙ head.kind;
      name = k.name ∙ head.name;
      count = ap (λ (cs : List core.UnitForm). length cs) k.come.forms ∙ m.count;
      forms = subst (λ (cs : List core.UnitForm). FormsStand work n 0 cs r.forms) (sym k.come.forms) (subst (λ (i : ℕ). FormsStand work i 0 e.forms r.forms) own m.forms);
      definitions =
          subst (λ (ds : List Defined). AreDefinitions work.symbols (reverse (definitions_from 0 c.forms)) ds) (sym (defined_whole us known n r at m.whole))
          (subst (λ (cs : List core.UnitForm). AreDefinitions work.symbols (reverse (definitions_from 0 cs)) (defined_by n whole.table)) (sym k.come.forms)
          (subst (λ (i : ℕ). AreDefinitions work.symbols (reverse (definitions_from 0 e.forms)) (defined_by i whole.table)) own m.definitions));
      imports = k.imports ∙ head.imports;
      ranges = k.ranges ∙ (head.ranges ∙ ap (λ i. ranges_from i 0 r.unit.forms) own);
      names =
          subst (λ (ns : List code_name.NameUse). AreNames work.symbols n ns (unit_names us whole r) (externals whole.table r)) (sym k.come.names)
          (subst (λ (i : ℕ). AreNames work.symbols i e.names (unit_names us whole r) (externals whole.table r)) own m.names);
      seconds = k.come.seconds ∙ (m.seconds ∙ sym (seconds_whole r m.whole));
      entries = subst (λ (es : List Entry). AreEntries work.symbols es r.entries) (sym k.come.entries) m.entries;
      exports = subst (λ (es : List Entry). AreEntries work.symbols es r.exports) (sym k.come.exports) m.exports;
      errors = errors;
    }

    broken_stands : IsCollected uris h s None c → (f : WholeFault) → r ≡ broken_result r.unit f → UnitStands work text uris us whole n c r
    broken_stands k f is = record {
      number = own;
      uri = ap (slice_get uris) (sym head.document) ∙ k.uri;
      kind = ap kind_as k.kind ∙ head.kind;
      name = k.name ∙ head.name;
      count = k.come.as_many ∙ (sym (length-map s.forms form_of) ∙ ap (λ (fs : List UnitForm). length fs) (sym source));
      forms = subst (λ (fs : List Formed). FormsStand work n 0 c.forms fs) (sym (ap (λ (q : UnitResult). q.forms) is)) (blank_stand work n 0 c.forms k.come.blank);
      definitions =
          subst (λ (ds : List Defined). AreDefinitions work.symbols (reverse (definitions_from 0 c.forms)) ds) (sym (defined_broken us known n r f at (ap (λ (q : UnitResult). q.fault) is)))
          (subst (λ (bs : List (ℕ × Binder)). AreDefinitions work.symbols (reverse bs) []) (sym (blank_define 0 c.forms k.come.blank)) tt);
      imports = k.imports ∙ head.imports;
      ranges = k.ranges ∙ (head.ranges ∙ ap (λ i. ranges_from i 0 r.unit.forms) own);
      names =
          subst (λ (q : UnitResult). AreNames work.symbols n c.names (unit_names us whole q) (externals whole.table q)) (sym is)
          (subst (λ (ns : List code_name.NameUse). AreNames work.symbols n ns [] []) (sym k.come.names) (no_names work n));
      seconds = k.come.seconds ∙ sym (seconds_broken r f (ap (λ (q : UnitResult). q.fault) is));
      entries = subst (λ (q : UnitResult). AreEntries work.symbols c.entries q.entries) (sym is) (subst (λ (es : List Entry). AreEntries work.symbols es []) (sym k.come.entries) tt);
      exports = subst (λ (q : UnitResult). AreEntries work.symbols c.exports q.exports) (sym is) (subst (λ (es : List Entry). AreEntries work.symbols es []) (sym k.come.exports) tt);
      errors = errors;
    }

    unit_stands : (o : Option Expanded) → IsCollected uris h s o c → ComesTo us whole work o r → UnitStands work text uris us whole n c r
    unit_stands None k m = broken_stands k m.0 m.1
    unit_stands (Some e) k m = came_stands e k m

  -- all of them are the program
  pub program_stands : (spelled : LibraryName → List ℕ) (hs : List Head) (ss : List UnitSource) (es : List (Option Expanded)) (cs : List code.Unit) → AreCollected uris hs ss es cs → length es ≡ length us → length hs ≡ length us → length ss ≡ length us →
      HaveCome us (scoped_at us known (turns us)) work es → AreSourcesOf spelled us ss → AreHeadsOf text us hs → HaveErrors cs whole.units → UnitsStand work text uris us whole 0 cs whole.units
  program_stands spelled hs ss es cs collected es_many hs_many ss_many come sources heads errors =
      let units = scoped_units us known in
      let all = as_many us us 0 in
      units_stand work text uris us whole 0 cs whole.units (collected.count ∙ (es_many ∙ (sym all ∙ sym units.0))) (λ n c r here there.
      let within = slice_get_within cs n c here in
      let lt : n < length us = let k = collected.count in omega arith in
      let h = get hs n (omega arith) in
      let s = get ss n (omega arith) in
      let o = get es n (omega arith) in
      let p = unit_prepared us known n r there in
      let u = p.0 in
      let head : IsHeadOf text r.unit h.0 = subst (λ (q : Prepared). IsHeadOf text q h.0) (sym p.1.1) (heads n u h.0 p.1.0 h.1) in
      let source : r.unit.forms ≡ forms_of s.0.forms = ap (λ (q : Prepared). q.forms) p.1.1 ∙ (sources n u s.0 p.1.0 s.1).forms in
      let own : r.unit.number ≡ n = ap (λ (q : Prepared). q.number) p.1.1 in
      subst (λ (k : ℕ). UnitStands work text uris us whole k c r) (from_zero n)
      (unit_stands n h.0 s.0 c r there own head source (errors n c r here there) o.0 (collected.each n h.0 s.0 o.0 c h.1 s.1 o.1 here) (comes_last us known work es come n o.0 r o.1 there)))
    where
      from_zero : (n : ℕ) → n ≡ 0 + n
      from_zero n = omega arith
