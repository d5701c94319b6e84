use Rattle.std.proofs.Common.{length}
use Rattle.command_output.specs.Prints.{sink_seen}
use Rattle.session_serving.proofs.AnswerLaws.{QuietSoFar}
use Rattle.session_serving.proofs.CountLaws.{CountedSoFar}
use Rattle.session_serving.proofs.answering.answer_bodies.Given as goal

-- the bodies so far are answered and counted
abbrev pub invariant-loop-body : goal.invariant-loop-body
invariant-loop-body g l = record {
  answered : CountedSoFar l.fn.session l.fn.bodies l.bodies l.session
      (sink_seen (g.O.Sink.taken l.fn.output) (g.O.Sink.faults l.fn.output) (g.O.Sink.writes l.fn.output))
      (sink_seen (g.O.Sink.taken l.output) (g.O.Sink.faults l.output) (g.O.Sink.writes l.output)) l.fn.steps l.steps;
  quiet : QuietSoFar l.fn.bodies l.bodies l.fn.steps l.steps;
}

abbrev pub decreases-loop-body : goal.decreases-loop-body
decreases-loop-body g l = length l.bodies
