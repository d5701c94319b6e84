use Rattle.std.proofs.lemmas.Result.{err_from_is_err_and}
use Rattle.std.specs.Vec.Iter.{into_iter_items}
use Rattle.datum_reader.specs.OpenViews.{state_of}
use Rattle.datum_reader.proofs.StepLaws.{read_fails}
use Rattle.datum_reader.proofs.reader.open_after.Goals as goal

pub returns-in_err-step : goal.returns-in_err-step
returns-in_err-step c =
    let p = err_from_is_err_and c.from_residual.result c.from_residual.ensures.1 in
    rw (p.1, p.2)
    (read_fails c.in_err-step.field-0.0 _ (state_of c.loop-token.state) c.loop-token.number c.in-Some.token (into_iter_items c.loop-token.token-iterator) _ c.in-Some.ensures.steps.0 c.loop-token.invariant.goes
    c.in_err-step.ensures)
