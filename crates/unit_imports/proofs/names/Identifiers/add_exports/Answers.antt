use Rattle.std.proofs.Common.{List, ◌+◌, take, arith, subst}
use Rattle.std.proofs.lemmas.List.{take_all}
use Rattle.scheme_model.specs.Live.{all_export_uses, export_uses}
use Rattle.scheme_model.specs.Program.{ExportSpec}
use Rattle.unit_imports.specs.NamesUsed.{AddsNames}
use Rattle.unit_imports.proofs.GivenLaws.{item_at}
use Rattle.unit_imports.proofs.MeaningLaws.{names_itself, names_on}
use Rattle.unit_imports.proofs.UsedLaws.{adds_as, adds_none, adds_then, as_many_exports, export_at, exports_more, finds_kept}
use Rattle.unit_imports.proofs.names.Identifiers.add_exports.Goals as goal

pub loop-spec-init : goal.loop-spec-init
loop-spec-init c = record { names = names_itself c.args.symbols.now; adds = λ find finds xs are. adds_none c.args.symbols.now c.args.self.now }

pub loop-spec-preserved : goal.loop-spec-preserved
loop-spec-preserved c =
    let old = c.args.symbols.now in
    let mid = c.loop-spec.symbols in
    let new = c.add_export.new.symbols in
    let i = c.loop-spec.spec-index in
    let spec = c.spec-item.result in
    record {
      names = names_on old mid new c.loop-spec.invariant.names c.in_ok-add_export.ensures.names;
      adds = λ find finds xs are.
          let x = export_at c.args.specs.now xs are i spec (item_at c.args.specs.now i spec (omega arith) c.spec-item.is) in
          adds_as new c.args.self.now c.add_export.new.self _ (all_export_uses find (take (i + 1) xs)) (exports_more find xs i x.spec x.there)
          (adds_then mid new c.in_ok-add_export.ensures.names c.args.self.now c.loop-spec.self c.add_export.new.self (all_export_uses find (take i xs)) (export_uses find x.spec) (c.loop-spec.invariant.adds find finds xs are)
          (c.in_ok-add_export.ensures.adds find (finds_kept old mid c.loop-spec.invariant.names c.args.found.entries.now find finds) x.spec x.is));
    }

pub returns-clause-adds : goal.returns-clause-adds
returns-clause-adds c = λ find finds xs are.
    let i = c.loop-spec.spec-index in
    let n = as_many_exports c.args.specs.now xs are in
    subst (λ (l : List ExportSpec). AddsNames c.loop-spec.symbols c.args.self.now c.loop-spec.self (all_export_uses find l)) (take_all i xs (omega arith)) (c.loop-spec.invariant.adds find finds xs are)
