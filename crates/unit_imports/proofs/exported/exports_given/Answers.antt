use Rattle.std.proofs.Common.{List, [], ◌+◌, ◌++◌, ◌∙◌, append-nil, refl, sym, ap, subst, arith, add-one}
use Rattle.scheme_model.specs.Entries as model
use Rattle.scheme_model.specs.Program as program
use Rattle.scheme_model.specs.Diagnostics.{bytes_of}
use Rattle.unit_sources.specs.Exports.{AreFaults}
use Rattle.unit_sources.specs.Sources.{AreExports}
use Rattle.unit_sources.specs.declared.exporting.ExportFault as code_fault
use Rattle.unit_sources.specs.declared.units.ExportSpec as code_export
use Rattle.core_tree.specs.Units.{export_errors}
use Rattle.read_documents.specs.Findings.{all_told, errors_in}
use Rattle.read_documents.specs.Places.{spans_of}
use Rattle.unit_imports.proofs.ExportLaws.{any_exports, as_many_faults, fault_at, faults_done, faults_next}
use Rattle.unit_imports.proofs.GivenLaws.{drop_past, item_at}
use Rattle.unit_imports.proofs.ToldLaws.{export_error_next}
use Rattle.unit_imports.proofs.exported.exports_given.Goals as goal

pub loop-fault-init : goal.loop-fault-init
loop-fault-init c = record { inside = λ found. found; told = λ xs are gs faults reads us places. refl; errors = λ xs are gs faults. refl }

pub loop-fault-preserved : goal.loop-fault-preserved
loop-fault-preserved c = record {
  inside = λ found. c.in_ok-add_fault.ensures.inside (c.loop-fault.invariant.inside found);
  told = λ xs are gs faults reads us places.
      let i = c.loop-fault.fault-index in
      let g = fault_at xs c.as_slice-fault-items.result.now gs faults i c.fault-item.result (item_at c.as_slice-fault-items.result.now i c.fault-item.result (omega arith) c.fault-item.is) in
      faults_next (bytes_of (spans_of reads) us) c.args.unit gs i g.fault (all_told c.loop-fault.findings.items) (all_told c.add_fault.new.findings.items) _ g.there (c.in_ok-add_fault.ensures.told xs are g.fault g.is reads us places)
      (c.loop-fault.invariant.told xs are gs faults reads us places);
  errors = λ xs are gs faults.
      let i = c.loop-fault.fault-index in
      let g = fault_at xs c.as_slice-fault-items.result.now gs faults i c.fault-item.result (item_at c.as_slice-fault-items.result.now i c.fault-item.result (omega arith) c.fault-item.is) in
      export_error_next gs i (i + 1) g.fault (errors_in c.loop-fault.findings.items) (errors_in c.add_fault.new.findings.items) _ (add-one i) g.there (c.in_ok-add_fault.ensures.errors xs are g.fault g.is) (c.loop-fault.invariant.errors xs are gs faults);
}

pub returns-clause-entries : goal.returns-clause-entries
returns-clause-entries c = λ table means.
    let xs = any_exports c.args.source.now.exports in
    let r = c.in_ok-exports.ensures table means.0 means.1 (model.entry_at means.0) (λ s. refl) xs.0 xs.1 in
    ((program.export_all (model.entry_at means.0) [] xs.0).entries, r.entries)

pub returns-clause-exact : goal.returns-clause-exact
returns-clause-exact c = λ table find finds xs are. (c.in_ok-exports.ensures table finds.stand finds.are find finds.finds xs are).entries

pub returns-clause-told : goal.returns-clause-told
returns-clause-told c = λ table find finds xs are reads us places.
    let gs = (program.export_all find [] xs).faults in
    let faults = (c.in_ok-exports.ensures table finds.stand finds.are find finds.finds xs are).faults in
    let there : AreFaults xs c.as_slice-fault-items.result.now gs = subst (λ (l : List code_fault.ExportFault). AreFaults xs l gs) (sym c.as_slice-fault-items.ensures) faults in
    let specs : AreExports c.as_slice-specs.result.now xs = subst (λ (l : List code_export.ExportSpec). AreExports l xs) (sym c.as_slice-specs.ensures) are in
    faults_done (bytes_of (spans_of reads) us) c.args.unit gs c.loop-fault.fault-index (all_told c.loop-fault.findings.items) _
    (drop_past gs c.loop-fault.fault-index (let e = as_many_faults xs c.as_slice-fault-items.result.now gs there in omega arith)) (c.loop-fault.invariant.told xs specs gs there reads us places)

pub returns-clause-errors : goal.returns-clause-errors
returns-clause-errors c = λ table find finds xs are.
    let gs = (program.export_all find [] xs).faults in
    let faults = (c.in_ok-exports.ensures table finds.stand finds.are find finds.finds xs are).faults in
    let there : AreFaults xs c.as_slice-fault-items.result.now gs = subst (λ (l : List code_fault.ExportFault). AreFaults xs l gs) (sym c.as_slice-fault-items.ensures) faults in
    let specs : AreExports c.as_slice-specs.result.now xs = subst (λ (l : List code_export.ExportSpec). AreExports l xs) (sym c.as_slice-specs.ensures) are in
    let now = errors_in c.loop-fault.findings.items in
    let past = drop_past gs c.loop-fault.fault-index (let e = as_many_faults xs c.as_slice-fault-items.result.now gs there in omega arith) in
    sym (append-nil now) ∙ (ap (λ (fs : List program.ExportFault). now ++ export_errors fs) (sym past) ∙ c.loop-fault.invariant.errors xs specs gs there)
