use Rattle.std.proofs.Common.{◌≡◌, ◌-◌, ◌≤◌, length}
use Rattle.session_serving.specs.PieceOutcome.{serving}
use Rattle.command_output.specs.Prints.{sink_seen}
use Rattle.command_output.specs.Reads.{source_seen}
use Rattle.command_output.specs.Streams.{streams}
use Rattle.session_serving.proofs.SessionSoFar.{GoesUncounted}
use Rattle.session_serving.proofs.serve.answer_input.Given as goal

abbrev pub invariant-loop-taken : goal.invariant-loop-taken
invariant-loop-taken g l = record {
  going : GoesUncounted l.fn.looking
      (streams (source_seen (g.I.Source.left l.fn.input) (g.I.Source.faults l.fn.input) (g.I.Source.reads l.fn.input))
      (sink_seen (g.O.Sink.taken l.fn.output) (g.O.Sink.faults l.fn.output) (g.O.Sink.writes l.fn.output)))
      (streams (source_seen (g.I.Source.left l.input) (g.I.Source.faults l.input) (g.I.Source.reads l.input))
      (sink_seen (g.O.Sink.taken l.output) (g.O.Sink.faults l.output) (g.O.Sink.writes l.output)))
      (serving l.server.deframer l.server.session) l.taken 1099511627776 l.fn.steps l.steps;
  few : l.taken ≤ 1099511627776;
  wide : length l.buf ≡ 65536;
}

abbrev pub decreases-loop-taken : goal.decreases-loop-taken
decreases-loop-taken g l = 1099511627776 - l.taken
