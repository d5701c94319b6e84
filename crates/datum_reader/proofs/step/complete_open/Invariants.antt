use Rattle.std.proofs.Common.{◌≡◌, vec_len}
use Rattle.datum_reader.specs.Open.{completed}
use Rattle.datum_reader.specs.Views.{data_of}
use Rattle.datum_reader.specs.OpenViews.{tail_datum, stack_of}
use Rattle.datum_reader.proofs.step.complete_open.Given as goal

abbrev pub invariant-loop-frame : goal.invariant-loop-frame
invariant-loop-frame l =
    completed (tail_datum l.read) (data_of l.state.items.items) (stack_of l.state.stack.items)
    ≡ completed (tail_datum l.initial.read) (data_of l.initial.state.items.items) (stack_of l.initial.state.stack.items)

abbrev pub decreases-loop-frame : goal.decreases-loop-frame
decreases-loop-frame l = vec_len l.state.stack
