use Rattle.std.proofs.Common.{List, ◌+◌, take, arith, subst}
use Rattle.std.proofs.lemmas.List.{take_all}
use Rattle.scheme_model.specs.Entries.{library_in}
use Rattle.scheme_model.specs.ProgramArrows.{import_uses, uses_in_set}
use Rattle.scheme_model.specs.Program.{ImportSpec}
use Rattle.unit_imports.specs.NamesUsed.{AddsNames}
use Rattle.read_documents.specs.UnitSources.{IsSpec}
use Rattle.unit_imports.proofs.ImportLaws.{exports_kept}
use Rattle.unit_imports.proofs.GivenLaws.{item_at, libraries_kept}
use Rattle.core_tree.proofs.Matched.{as_many, matched_at}
use Rattle.unit_imports.proofs.MeaningLaws.{names_itself, names_on}
use Rattle.unit_imports.proofs.UsedLaws.{adds_as, adds_none, adds_then, imports_more}
use Rattle.unit_imports.proofs.names.Identifiers.add_sets.Goals as goal

pub add_import-requires : goal.add_import-requires
add_import-requires c = exports_kept c.args.symbols.now c.loop-spec.symbols c.loop-spec.invariant.names c.args.libraries.expanded.now c.requires

pub loop-spec-init : goal.loop-spec-init
loop-spec-init c = record { names = names_itself c.args.symbols.now; adds = λ spelled all rs libs ss specs. adds_none c.args.symbols.now c.args.self.now }

pub loop-spec-preserved : goal.loop-spec-preserved
loop-spec-preserved c =
    let old = c.args.symbols.now in
    let mid = c.loop-spec.symbols in
    let new = c.add_import.new.symbols in
    let i = c.loop-spec.spec-index in
    record {
      names = names_on old mid new c.loop-spec.invariant.names c.in_ok-add_import.ensures.names;
      adds = λ spelled all rs libs ss specs.
          let m = matched_at (IsSpec spelled) c.args.specs.now ss i c.spec-item.result specs (item_at c.args.specs.now i c.spec-item.result (omega arith) c.spec-item.is) in
          adds_as new c.args.self.now c.add_import.new.self _ (import_uses all rs (take (i + 1) ss)) (imports_more all rs ss i m.0 m.1)
          (adds_then mid new c.in_ok-add_import.ensures.names c.args.self.now c.loop-spec.self c.add_import.new.self (import_uses all rs (take i ss)) (uses_in_set all rs m.0.set (library_in m.0.set)) (c.loop-spec.invariant.adds spelled all rs libs ss specs)
          (c.in_ok-add_import.ensures.adds spelled all rs (libraries_kept old mid c.loop-spec.invariant.names c.args.libraries spelled all rs libs) m.0.set m.2.set));
    }

pub returns-clause-adds : goal.returns-clause-adds
returns-clause-adds c = λ spelled all rs libs ss specs.
    let i = c.loop-spec.spec-index in
    let n = as_many (IsSpec spelled) c.args.specs.now ss specs in
    subst (λ (l : List ImportSpec). AddsNames c.loop-spec.symbols c.args.self.now c.loop-spec.self (import_uses all rs l)) (take_all i ss (omega arith)) (c.loop-spec.invariant.adds spelled all rs libs ss specs)
