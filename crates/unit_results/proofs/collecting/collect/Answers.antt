-- Each unit's head is there, what is found of it stands in the documents, and so does its first Error; its forms stand for something.
use Rattle.std.proofs.Common.{◌≡◌, ◌<◌, ℕ, List, length, map, vec_len, refl, sym, ap, ◌∙◌, subst, arith, Option, Some, slice_get, ◌++◌, ◌∷◌, [], add-one}
use Rattle.std.specs.Prelude.{IfSome}
use Rattle.std.proofs.lemmas.Iterator.Adapters.{YieldsList-from_vec}
use Rattle.std.proofs.lemmas.Iterator.Consumers.{YieldsList-turn, YieldsList-end, YieldsList-from_enumerate}
use Rattle.std.proofs.lemmas.List.{length_push}
use Rattle.std.proofs.lemmas.Option.{slice_get_read}
use Rattle.core_tree.specs.declared.units.UnitForm.{UnitForm}
use Rattle.core_tree.specs.declared.units.Unit.{Unit as CodeUnit}
use Rattle.unit_imports.specs.declared.expanded.Expanded.{Expanded}
use Rattle.read_documents.specs.declared.findings.Finding.{Finding}
use Rattle.read_documents.specs.declared.findings.At.{At}
use Rattle.read_documents.specs.declared.heads.Head.{Head}
use Rattle.read_documents.specs.Belongs.{AreErrorsIn}
use Rattle.program_leaves.specs.Formed.{IsFormed, AreFormedIn}
use Rattle.read_documents.specs.Findings.{AreKept, all_told, first_error_in}
use Rattle.read_documents.specs.Places.{AreFoundIn, AreHeads, AreHeadsIn, ArePlaces, HaveTokens}
use Rattle.read_documents.specs.Readings.{AreDocuments, program_in}
use Rattle.unit_results.specs.UnitsFound.{IsTold}
use Rattle.document_units.proofs.BrokenLaws.{heads_itself, heads_in, head_set}
use Rattle.unit_sources.specs.declared.units.UnitForm.{UnitForm as SourceForm}
use Rattle.unit_imports.specs.Collected.{IsNothing}
use Rattle.read_documents.specs.declared.documents.Document.{Document}
use Rattle.unit_imports.proofs.Collecting.{AreCollectedSo, none_collected, one_collected, has_come, set_other}
use Rattle.unit_results.proofs.ReadingLaws.{get}
use Rattle.read_documents.proofs.Enumerated.{all_placed, next_placed}
use Rattle.read_documents.proofs.HeadsKept.{heads_kept}
use Rattle.unit_results.proofs.ReadingLaws.{errors_none, errors_more, found_in, formed_at, formed_none, formed_more}
use Rattle.unit_results.proofs.SoundKept.{some_document}
use Rattle.program_findings.proofs.StopsLaws.{kept_of_all}
use Rattle.read_documents.proofs.ToldUnits.{none_told, more_told, kept_all, firsts_all, result_of}
use Rattle.unit_results.proofs.UnitsTurns.{of_some}
use Rattle.unit_results.proofs.collecting.collect.Goals as goal
use Rattle.unit_results.proofs.collecting.collect.Goals.{In-Some, In-None}

-- the unit's place, and what it came to
turn : (c : In-Some) → (c.in-Some.place ≡ length c.loop-place.yielded) × (slice_get c.args.expanded.items (length c.loop-place.yielded) ≡ Some c.in-Some.came) × (length c.loop-place.yielded < length c.args.expanded.items)
turn c =
    let all = c.args.expanded.items in
    next_placed all (length c.loop-place.yielded) (c.in-Some.place, c.in-Some.came)
    (YieldsList-turn (YieldsList-from_enumerate (YieldsList-from_vec all (cc) (cc)) (cc)) c.loop-place.yielded c.loop-place.place-iterator c.loop-place.yielded_by c.next.result c.next.new.self (c.in-Some.place, c.in-Some.came) c.in-Some.is c.next.ensures.steps)

-- all units were gone through
done : (c : In-None) → length c.loop-place.yielded ≡ length c.args.expanded.items
done c =
    let all = c.args.expanded.items in
    let e = YieldsList-end (YieldsList-from_enumerate (YieldsList-from_vec all (cc) (cc)) (cc)) c.loop-place.yielded c.loop-place.place-iterator c.loop-place.yielded_by c.next.result c.next.new.self c.in-None.is c.next.ensures.steps in
    all_placed all (length c.loop-place.yielded) e.1

pub loop-place-init : goal.loop-place-init
loop-place-init c = record {
  heads = heads_itself c.args.units.heads.items;
  findings = omega (arith, c.in_ok-findings.ensures.count, c.len.ensures);
  errors = subst (λ (es : List (Option (At × ℕ))). AreErrorsIn (vec_len c.args.documents) es) (sym c.new-first_errors.ensures.items) (errors_none (vec_len c.args.documents));
  count = ap (λ (us : List CodeUnit). length us) c.new-program.ensures;
  formed = λ work formed. subst (λ (us : List CodeUnit). AreFormedIn work us) (sym c.new-program.ensures) (formed_none work);
  told = λ rs p tokens told. none_told rs p c.in_ok-findings.findings.items c.new-program.result c.new-first_errors.result.items c.in_ok-findings.ensures.kept c.new-program.ensures c.new-first_errors.ensures.items;
  untouched = λ k le. refl;
  collected =
      subst (λ (us : List CodeUnit). AreCollectedSo (map (λ (d : Document). d.uri) c.args.documents.items) c.args.units.heads.items c.args.units.sources.items c.args.expanded.items us) (sym c.new-program.ensures)
      (none_collected (map (λ (d : Document). d.uri) c.args.documents.items) c.args.units.heads.items c.args.units.sources.items c.args.expanded.items);
}

pub came_to-requires-clause-documents : goal.came_to-requires-clause-documents
came_to-requires-clause-documents c =
    let t = turn (goal.at.came_to-requires-clause-documents c).In-Some in
    let there : length c.loop-place.yielded < length c.args.units.heads.items = omega (arith, t.2, c.requires.count, c.args.expanded.ok.0, c.args.units.heads.ok.0) in
    let some = some_document (vec_len c.args.documents) c.args.units.heads.items (length c.loop-place.yielded) c.requires.units.heads there in
    omega (arith, some, c.as_slice.ensures.len)

pub came_to-requires-clause-places : goal.came_to-requires-clause-places
came_to-requires-clause-places c =
    subst (λ (n : ℕ). AreHeadsIn n c.as_slice-in-loop-place.result.now) (sym c.as_slice.ensures.len)
    (subst (λ (hs : List Head). AreHeadsIn (vec_len c.args.documents) hs) (sym c.as_slice-in-loop-place.ensures.value)
    (heads_in (vec_len c.args.documents) c.args.units.heads.items c.loop-place.heads.items c.loop-place.invariant.heads c.requires.units.heads))

pub came_to-requires-clause-found : goal.came_to-requires-clause-found
came_to-requires-clause-found c =
    let t = turn (goal.at.came_to-requires-clause-found c).In-Some in
    subst (λ (n : ℕ). IfSome c.in-Some.came (λ (e : Expanded). AreFoundIn n e.findings.items)) (sym c.as_slice.ensures.len)
    (found_in (vec_len c.args.documents) c.args.expanded.items (length c.loop-place.yielded) c.in-Some.came c.requires.found t.1)

pub unit_of-requires : goal.unit_of-requires
unit_of-requires c =
    let t = turn (goal.at.unit_of-requires c).In-Some in
    let count = vec_len c.args.documents in
    let hs = c.loop-place.heads.items in
    let h = c.index_mut.result.now in
    let size = c.loop-place.invariant.heads.size in
    let within : c.in-Some.place < length hs = omega (arith, t.0, t.2, size, c.requires.count, c.args.expanded.ok.0, c.args.units.heads.ok.0) in
    let below = heads_in count c.args.units.heads.items hs c.loop-place.invariant.heads c.requires.units.heads c.in-Some.place h (slice_get_read hs (length hs) c.in-Some.place h refl within c.index_mut.ensures.value) in
    omega (arith, below, c.as_slice-in-loop-place-2.ensures.len)

pub add-requires : goal.add-requires
add-requires c =
    let same : c.in_ok-came.came.findings.items ≡ c.in_ok-unit.found.items = cc (c.in_ok-unit.ensures.findings) in
    let many : length c.as_slice.result.now ≡ vec_len c.loop-place.findings = c.as_slice.ensures.len ∙ sym c.loop-place.invariant.findings in
    subst (λ (n : ℕ). AreFoundIn n c.in_ok-unit.found.items) many (subst (λ (fs : List Finding). AreFoundIn (length c.as_slice.result.now) fs) same c.in_ok-came.ensures.found)

pub loop-place-preserved : goal.loop-place-preserved
loop-place-preserved c =
    let t = turn (goal.at.loop-place-preserved c).In-Some in
    let l = c.loop-place in
    let count = vec_len c.args.documents in
    let hs = l.heads.items in
    let h = c.index_mut.result.now in
    let size = l.invariant.heads.size in
    let within : c.in-Some.place < length hs = omega (arith, t.0, t.2, size, c.requires.count, c.args.expanded.ok.0, c.args.units.heads.ok.0) in
    let same : c.in_ok-came.came.findings.items ≡ c.as_slice-in-loop-place-3.result.now = cc (c.in_ok-unit.ensures.findings, c.as_slice-in-loop-place-3.ensures.value) in
    let found = subst (λ (n : ℕ). AreFoundIn n c.as_slice-in-loop-place-3.result.now) c.as_slice.ensures.len
    (subst (λ (fs : List Finding). AreFoundIn (length c.as_slice.result.now) fs) same c.in_ok-came.ensures.found) in
    let pushed = c.in_ok-push-2.ensures.ok in
    record {
      heads = head_set c.args.units.heads.items hs c.in-Some.place h c.unit_of.new.head l.invariant.heads (slice_get_read hs (length hs) c.in-Some.place h refl within c.index_mut.ensures.value) c.unit_of.ensures.head;
      findings = c.in_ok-add.ensures.count ∙ l.invariant.findings;
      errors = errors_more count l.first_errors.items c.push.new.self.items c.first_error.result c.in_ok-push.ensures.items (c.first_error.ensures.inside count found) l.invariant.errors;
      count = omega (arith, ap (λ (us : List CodeUnit). length us) pushed, length_push l.program c.in_ok-unit.unit, length_push l.yielded (c.in-Some.place, c.in-Some.came), l.invariant.count);
      formed = λ work formed.
          let came : IfSome c.in-Some.came (λ (e : Expanded). IsFormed work c.in-Some.place e.forms) = subst (λ (n : ℕ). IfSome c.in-Some.came (λ (e : Expanded). IsFormed work n e.forms)) (sym t.0)
          (formed_at work c.args.expanded.items (length l.yielded) c.in-Some.came formed t.1) in
          formed_more work l.program c.push-in-loop-place.new.self c.in_ok-unit.unit c.in-Some.place pushed (l.invariant.count ∙ sym t.0)
          (subst (λ (fs : List UnitForm). IsFormed work c.in-Some.place fs) (sym c.in_ok-unit.ensures.forms) (c.in_ok-came.ensures.formed work came)) (l.invariant.formed work formed);
      told = λ rs p tokens told.
          let n = length l.yielded in
          let o = c.in-Some.came in
          let r = get p.units n (omega (arith, t.2, told.count)) in
          let at_unit : slice_get p.units c.in-Some.place ≡ Some r.0 = ap (slice_get p.units) t.0 ∙ r.1 in
          let stay = heads_kept rs 0 c.args.units.heads.items hs p.units l.invariant.heads told.heads in
          let places : ArePlaces (record { documents = c.as_slice.result; heads = c.as_slice-in-loop-place.result }) rs p.units = record {
            heads = subst (λ (ks : List Head). AreHeads rs 0 ks p.units) (sym c.as_slice-in-loop-place.ensures.value) stay;
            spans = subst (λ (ds : List Document). HaveTokens ds rs) (sym c.as_slice.ensures.value) tokens;
          } in
          let at_head : slice_get hs c.in-Some.place ≡ Some h = slice_get_read hs (length hs) c.in-Some.place h refl within c.index_mut.ensures.value in
          let head_there : slice_get c.as_slice-in-loop-place.result.now c.in-Some.place ≡ Some h = ap (λ (ks : List Head). slice_get ks c.in-Some.place) c.as_slice-in-loop-place.ensures.value ∙ at_head in
          let first_head : slice_get c.args.units.heads.items n ≡ Some h = sym (l.invariant.untouched n (omega arith)) ∙ (ap (slice_get hs) (sym t.0) ∙ at_head) in
          let is : IsTold rs p h o r.0 = told.each n h o r.0 first_head t.1 r.1 in
          let found = c.in_ok-came.ensures.told rs p h r.0 places (result_of rs 0 c.args.units.heads.items p.units told.heads c.in-Some.place c.in-Some.place r.0 (omega arith) at_unit) head_there is in
          let fs = c.in_ok-came.came.findings.items in
          let same_found : c.in_ok-unit.found.items ≡ fs = ap (λ xs. xs.items) c.in_ok-unit.ensures.findings in
          more_told rs p n r.0 r.1 fs found l.findings.items c.add.new.all.items l.program c.push-in-loop-place.new.self c.in_ok-unit.unit l.first_errors.items c.push.new.self.items c.first_error.result
          (length (l.yielded ++ (c.in-Some.place, o) ∷ [])) (length_push l.yielded (c.in-Some.place, o) ∙ add-one n)
          (λ ds kept. subst (λ xs. AreKept (ds ++ all_told xs) c.add.new.all.items) same_found (c.in_ok-add.ensures.kept ds kept)) l.invariant.count pushed c.in_ok-unit.ensures.errors c.in_ok-push.ensures.items
          (c.first_error.ensures.first ∙ ap first_error_in (c.as_slice-in-loop-place-3.ensures.value ∙ same_found)) (l.invariant.told rs p tokens told);
      untouched = λ k le. set_other hs c.in-Some.place c.unit_of.new.head k (omega (arith, t.0, length_push l.yielded (c.in-Some.place, c.in-Some.came), le)) ∙ l.invariant.untouched k (omega (arith, length_push l.yielded (c.in-Some.place, c.in-Some.came), le));
      collected =
          let uris = map (λ (d : Document). d.uri) c.args.documents.items in
          let hs0 = c.args.units.heads.items in
          let ss = c.args.units.sources.items in
          let es = c.args.expanded.items in
          let n = c.in-Some.place in
          let s = c.index-source.result.now in
          let e = c.in_ok-came.came in
          let u = c.in_ok-unit.unit in
          let o = c.in-Some.came in
          let at_head : slice_get hs0 n ≡ Some h = sym (l.invariant.untouched n (omega (arith, t.0))) ∙ slice_get_read hs (length hs) n h refl within c.index_mut.ensures.value in
          let at_source : slice_get ss n ≡ Some s = slice_get_read ss (length ss) n s refl (omega (arith, within, size, c.requires.units.sources)) c.index-source.ensures in
          let at_come : slice_get es n ≡ Some o = ap (slice_get es) t.0 ∙ t.1 in
          let many : length c.as_slice-count.result.now ≡ length s.forms = ap (λ (fs : List SourceForm). length fs) c.as_slice-count.ensures in
          one_collected uris hs0 ss es l.program c.push-in-loop-place.new.self u n h s o pushed (l.invariant.count ∙ sym t.0) at_head at_source at_come
          (record {
            uri = subst (λ (ds : List Document). slice_get (map (λ (d : Document). d.uri) ds) h.document ≡ Some u.uri) c.as_slice-in-loop-place-2.ensures.value c.in_ok-unit.ensures.uri;
            kind = c.in_ok-unit.ensures.kind;
            name = c.in_ok-unit.ensures.name;
            imports = c.in_ok-unit.ensures.imports;
            ranges = c.in_ok-unit.ensures.ranges;
            come =
                has_come (length s.forms) o e u (of_some (λ (v : Expanded). e ≡ v) o c.in_ok-came.ensures.some) (λ none. subst (λ (k : ℕ). IsNothing k e) many (c.in_ok-came.ensures.none none)) c.in_ok-unit.ensures.has;
          })
          l.invariant.collected;
    }

pub returns-clause-heads : goal.returns-clause-heads
returns-clause-heads c = heads_in (vec_len c.args.documents) c.args.units.heads.items c.loop-place.heads.items c.loop-place.invariant.heads c.requires.units.heads

pub tell_unread-requires : goal.tell_unread-requires
tell_unread-requires c = omega (arith, c.loop-place.invariant.findings, c.as_slice-2.ensures.len)

pub returns-clause-found : goal.returns-clause-found
returns-clause-found c = λ ds rs are read tokens told.
    let p = program_in rs in
    let all = done (goal.at.returns-clause-found c).In-None in
    let cs = c.as_slice-2.result.now in
    kept_of_all ds cs rs (subst (λ (xs : List Document). AreDocuments ds xs) (sym c.as_slice-2.ensures.value) are) read c.loop-place.findings.items c.tell_unread.new.findings.items
    (kept_all rs p (length c.loop-place.yielded) c.loop-place.findings.items c.loop-place.program c.loop-place.first_errors.items (omega (arith, all, told.count)) (c.loop-place.invariant.told rs p tokens told)) c.in_ok-tell_unread.ensures

pub returns-clause-collected : goal.returns-clause-collected
returns-clause-collected c = record { count = c.loop-place.invariant.count ∙ done (goal.at.returns-clause-collected c).In-None; each = c.loop-place.invariant.collected }

pub returns-clause-told : goal.returns-clause-told
returns-clause-told c = λ rs p tokens told. (c.loop-place.invariant.told rs p tokens told).errors

pub returns-clause-firsts : goal.returns-clause-firsts
returns-clause-firsts c = λ rs p tokens told.
    let all = done (goal.at.returns-clause-firsts c).In-None in
    firsts_all rs p (length c.loop-place.yielded) c.loop-place.findings.items c.loop-place.program c.loop-place.first_errors.items (all ∙ told.count) (c.loop-place.invariant.told rs p tokens told)

pub returns-clause-formed : goal.returns-clause-formed
returns-clause-formed c = λ work formed. c.loop-place.invariant.formed work formed
