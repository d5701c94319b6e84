use Rattle.rows.specs.Yards.{IsReady}
use Rattle.rows.proofs.nodes.answer.Given as goal

abbrev pub invariant-loop-item : goal.invariant-loop-item
invariant-loop-item l = IsReady l.yard
