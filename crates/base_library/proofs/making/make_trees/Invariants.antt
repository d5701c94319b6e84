use Rattle.std.proofs.Common.{take}
use Rattle.base_library.specs.Sketches.{made}
use Rattle.base_library.specs.Rows.{Holds}
use Rattle.base_library.proofs.making.make_trees.Given as goal

abbrev pub invariant-loop-step : goal.invariant-loop-step
invariant-loop-step l = Holds l.fn.work l.work l.region (made (take l.step-index l.steps)) l.trees.items
