use Rattle.import_sets.proofs.StepLaws.{AreTurns}
use Rattle.import_sets.proofs.turns.turns.Given as goal

-- the units so far and those that are to come; all that are open wait
abbrev pub invariant-loop-turn : goal.invariant-loop-turn
invariant-loop-turn l = AreTurns l.graph l.done.items l.waiting l.order l.turn
