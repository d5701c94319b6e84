use Rattle.std.proofs.Common.{ℕ, ◌+◌, List, Option, take, ap, sym, subst, ◌∙◌, arith}
use Rattle.std.specs.BTreeMap.{get_by_text}
use Rattle.scheme_model.specs.Program.{is_in}
use Rattle.unit_sources.specs.declared.units.ImportSpec.{ImportSpec}
use Rattle.unit_sources.specs.Named.{imported_places}
use Rattle.unit_sources.specs.Graphs.{SameRows, rows_of}
use Rattle.unit_sources.proofs.GraphLaws.{rows_step}
use Rattle.unit_sources.proofs.graph.rows.Goals as goal

pub loop-unit-preserved : goal.loop-unit-preserved
loop-unit-preserved c =
    let find : List ℕ → Option ℕ = λ s. get_by_text c.args.firsts.now s in
    subst (λ (g : List (List ℕ)). SameRows g (rows_of find (take (c.loop-unit.unit-index + 1) c.args.units.now))) (sym {A = List (List ℕ)} c.in_ok-push.ensures.items)
    (rows_step find c.args.units.now c.loop-unit.unit-index c.unit-item.result c.loop-unit.rows.items c.in_ok-imported.field-0 (omega arith) c.unit-item.is c.loop-unit.invariant
    (λ n. c.in_ok-imported.ensures n ∙ ap (λ (l : List ImportSpec). is_in n (imported_places find l)) c.as_slice.ensures))
