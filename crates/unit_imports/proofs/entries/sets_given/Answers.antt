use Rattle.std.proofs.Common.{◌≡◌, ℕ, List, [], ◌∷◌, ◌++◌, ◌∙◌, append-nil, length, drop, sym, ap, subst, arith}
use Rattle.std.specs.List.{zip}
use Rattle.scheme_model.specs.Diagnostics.{document_of, bytes_of, set_found}
use Rattle.scheme_model.specs.Program.{ImportSpec, import_all}
use Rattle.core_tree.specs.Names.{AllMatch}
use Rattle.core_tree.specs.Units.{set_errors, set_forms}
use Rattle.unit_sources.specs.UnitsRead.{forms_of}
use Rattle.unit_sources.specs.declared.units.UnitForm.{UnitForm}
use Rattle.import_sets.specs.Given.{Gathered}
use Rattle.unit_sources.specs.declared.units.ImportSpec as code
use Rattle.read_documents.specs.Findings.{all_told, errors_in}
use Rattle.read_documents.specs.Places.{number_at, spans_of}
use Rattle.unit_imports.specs.Joining.{AreApart, GroupsMean}
use Rattle.unit_imports.specs.SetsGiven.{with_set}
use Rattle.read_documents.specs.UnitSources.{IsSpec}
use Rattle.unit_imports.proofs.GivenLaws.{item_at, libraries_kept, none_left, sets_told_begin, sets_done, sets_told_next}
use Rattle.core_tree.proofs.Matched.{matched_at}
use Rattle.unit_imports.proofs.MeaningLaws.{names_itself, names_on}
use Rattle.unit_imports.proofs.SetErrors.{as_many_forms, no_set_errors}
use Rattle.unit_imports.proofs.entries.sets_given.Goals as goal

pub loop-place-init : goal.loop-place-init
loop-place-init c =
    let none : c.new-gathering.result.groups.items ≡ [] = ap (λ (g : Gathered). g.groups) c.new-gathering.ensures in
    record {
      names = names_itself c.args.symbols.now;
      means = subst (GroupsMean c.args.symbols.now) (sym none) ([], tt);
      apart = subst AreApart (sym none) tt;
      clashes = ap (λ (g : Gathered). g.clashes) c.new-gathering.ensures;
      findings = c.requires.findings;
      sets = λ spelled all rs libs ss specs. sets_told_begin c.args.symbols.now c.new-gathering.result.groups.items (all_told c.args.findings.now.items) c.args.places all rs ss c.in_ok-forms.forms.items (errors_in c.args.findings.now.items) none;
    }

pub loop-place-preserved : goal.loop-place-preserved
loop-place-preserved c =
    let old = c.args.symbols.now in
    let mid = c.loop-place.symbols in
    let new = c.with_set.new.symbols in
    let xs = c.as_slice-specs.result.now in
    let i = c.loop-place.place in
    let fs = c.in_ok-forms.forms.items in
    record {
      names = names_on old mid new c.loop-place.invariant.names c.in_ok-gathering.ensures.names;
      means = c.in_ok-gathering.ensures.means;
      apart = c.in_ok-gathering.ensures.apart;
      clashes = c.in_ok-gathering.ensures.clashes;
      findings = c.in_ok-gathering.ensures.findings;
      sets = λ spelled all rs libs ss specs.
          let there = subst (λ (l : List code.ImportSpec). AllMatch (IsSpec spelled) l ss) (sym c.as_slice-specs.ensures) specs in
          let m = matched_at (IsSpec spelled) xs ss i c.index-specs-place.result there (item_at xs i c.index-specs-place.result (omega arith) c.index-specs-place.is) in
          let h = c.loop-place.invariant.sets spelled all rs libs ss specs in
          let known = libraries_kept old mid c.loop-place.invariant.names c.args.libraries spelled all rs libs in
          sets_told_next mid new c.loop-place.gathering.groups.items c.in_ok-gathering.gathering.groups.items (all_told c.args.findings.now.items) (all_told c.loop-place.findings.items) (all_told c.with_set.new.findings.items) c.args.places
          all rs ss i m.0 fs (errors_in c.args.findings.now.items) (errors_in c.loop-place.findings.items) (errors_in c.with_set.new.findings.items) m.1 h
          (c.in_ok-gathering.ensures.exact spelled all rs known m.0 m.2 h.sets.es h.sets.stand) (λ reads us are.
          c.in_ok-gathering.ensures.told spelled all rs known m.0 m.2 h.sets.es h.sets.stand reads us are
          ∙ ap (λ (d : ℕ). all_told c.loop-place.findings.items ++ set_found (bytes_of (spans_of reads) us) d m.0 (with_set all rs m.0.set h.sets.es).1) (c.document_of-document.ensures.exact reads us are ∙ ap (document_of us) m.2.unit))
          (c.in_ok-gathering.ensures.errors spelled all rs known m.0 m.2 h.sets.es h.sets.stand ∙ ap (λ (n : ℕ). errors_in c.loop-place.findings.items ++ set_errors ((n, (with_set all rs m.0.set h.sets.es).1) ∷ [])) (c.form_in-form.ensures ∙ ap (λ (ns : List ℕ). number_at ns i) c.as_slice-in-loop-place.ensures.value));
    }

pub returns-clause-exact : goal.returns-clause-exact
returns-clause-exact c = λ spelled all rs libs ss specs.
    (sets_done c.loop-place.symbols c.loop-place.gathering.groups.items (all_told c.args.findings.now.items) (all_told c.loop-place.findings.items) c.args.places all rs ss (drop c.loop-place.place ss)
    (none_left (IsSpec spelled) c.args.source.now.imports ss c.loop-place.place specs (let e = ap (λ (l : List code.ImportSpec). length l) c.as_slice-specs.ensures in omega arith)) (c.loop-place.invariant.sets spelled all rs libs ss specs).sets).stand

pub returns-clause-told : goal.returns-clause-told
returns-clause-told c = λ spelled all rs libs ss specs reads us places.
    (sets_done c.loop-place.symbols c.loop-place.gathering.groups.items (all_told c.args.findings.now.items) (all_told c.loop-place.findings.items) c.args.places all rs ss (drop c.loop-place.place ss)
    (none_left (IsSpec spelled) c.args.source.now.imports ss c.loop-place.place specs (let e = ap (λ (l : List code.ImportSpec). length l) c.as_slice-specs.ensures in omega arith)) (c.loop-place.invariant.sets spelled all rs libs ss specs).sets).found
    reads us places

pub returns-clause-errors : goal.returns-clause-errors
returns-clause-errors c = λ spelled all rs libs ss specs unit is.
    let h = c.loop-place.invariant.sets spelled all rs libs ss specs in
    let n = c.loop-place.place in
    let fs = c.in_ok-forms.forms.items in
    let now = errors_in c.loop-place.findings.items in
    let forms : fs ≡ set_forms unit 0 (forms_of c.args.source.now.forms) = c.in_ok-forms.ensures unit ∙ ap (λ (gs : List UnitForm). set_forms unit 0 (forms_of gs)) c.as_slice.ensures in
    let many : length fs ≡ length ss = ap (λ (ns : List ℕ). length ns) forms ∙ (as_many_forms unit 0 (forms_of c.args.source.now.forms) ∙ ap (λ (xs : List ImportSpec). length xs) (sym is)) in
    let past : drop n ss ≡ [] = none_left (IsSpec spelled) c.args.source.now.imports ss n specs (let e = ap (λ (l : List code.ImportSpec). length l) c.as_slice-specs.ensures in omega arith) in
    sym (append-nil now) ∙ (ap (λ (es : List (ℕ × ℕ)). now ++ es) (sym (no_set_errors (drop n fs))) ∙ (ap (λ (l : List ImportSpec). now ++ set_errors (zip (drop n fs) (import_all all rs h.sets.es l).1)) (sym past)
    ∙ (h.errors many ∙ ap (λ (ns : List ℕ). errors_in c.args.findings.now.items ++ set_errors (zip ns (import_all all rs [] ss).1)) forms)))

pub with_set-requires-clause-document : goal.with_set-requires-clause-document
with_set-requires-clause-document c = c.document_of-document.ensures.inside c.requires.places c.requires.documents
