use Rattle.std.proofs.Common.{List, [], ◌++◌, sym, subst}
use Rattle.scheme_model.specs.Live.{all_export_uses}
use Rattle.scheme_model.specs.ProgramArrows.{import_uses}
use Rattle.core_tree.specs.Names.{AllMatch}
use Rattle.core_tree.specs.Units.{AreNames, given_exports}
use Rattle.core_tree.specs.declared.units.NameUse.{NameUse}
use Rattle.unit_sources.specs.Sources.{AreExports}
use Rattle.unit_sources.specs.declared.units.ExportSpec.{ExportSpec}
use Rattle.unit_sources.specs.declared.units.ImportSpec.{ImportSpec}
use Rattle.read_documents.specs.UnitSources.{IsSpec}
use Rattle.unit_imports.specs.declared.names.Identifiers.{Identifiers}
use Rattle.unit_imports.proofs.UsedLaws.{adds_then, finds_kept, names_all}
use Rattle.unit_imports.proofs.names.names_used.Goals as goal

pub returns-clause-exact : goal.returns-clause-exact
returns-clause-exact c = λ spelled all rs libs ss specs find finds xs are one.
    let old = c.args.work.now.symbols in
    let mid = c.add_sets.new.symbols in
    let two = c.add_exports.new.symbols in
    let new = c.add_externals.new.symbols in
    let k = c.in_ok-add_sets.ensures.names in
    let l = c.in_ok-add_exports.ensures.names in
    let es = c.args.names.now in
    let a : Identifiers = record { unit = c.args.unit; uses = c.new.result } in
    let imports : AllMatch (IsSpec spelled) c.as_slice.result.now ss = subst (λ (cs : List ImportSpec). AllMatch (IsSpec spelled) cs ss) (sym c.as_slice.ensures) specs in
    let exports : AreExports c.as_slice-exports.result.now xs = subst (λ (cs : List ExportSpec). AreExports cs xs) (sym c.as_slice-exports.ensures) are in
    let finds1 = finds_kept old mid k es find finds in
    subst (λ (ns : List NameUse). AreNames new c.args.unit ns (import_uses all rs ss ++ all_export_uses find xs) (given_exports find [] xs)) (sym c.from_vec.ensures)
    (names_all two new a c.add_exports.new.self c.add_externals.new.self (import_uses all rs ss) find xs c.in_ok-add_externals.ensures.names c.new.ensures.items one
    (adds_then mid two l a c.add_sets.new.self c.add_exports.new.self (import_uses all rs ss) (all_export_uses find xs) (c.in_ok-add_sets.ensures.adds spelled all rs libs ss imports)
    (c.in_ok-add_exports.ensures.adds find finds1 xs exports))
    (c.in_ok-add_externals.ensures.adds find (finds_kept mid two l es find finds1) xs exports))
