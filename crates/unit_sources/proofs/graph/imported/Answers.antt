use Rattle.std.proofs.Common.{ap, ◌∙◌, arith}
use Rattle.std.specs.Prelude.{◌||◌}
use Rattle.std.specs.BTreeMap.{get_by_text}
use Rattle.scheme_model.specs.Program.{is_in}
use Rattle.import_sets.specs.Graphs.{is_place}
use Rattle.unit_sources.proofs.GraphLaws.{imports_step}
use Rattle.unit_sources.proofs.graph.imported.Goals as goal

pub loop-import-preserved : goal.loop-import-preserved
loop-import-preserved c = λ n.
    imports_step (λ s. get_by_text c.args.firsts.now s) c.args.imports.now c.loop-import.import-index c.import-item.result n (is_in n c.loop-import.places.all) (is_in n c.in_ok-places.places.all)
    (omega arith) c.import-item.is (c.loop-import.invariant n) (c.in_ok-places.ensures.members n ∙ ap (λ o. is_in n c.loop-import.places.all || is_place n o) c.place_in.ensures)
