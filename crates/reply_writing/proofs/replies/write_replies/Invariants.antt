use Rattle.std.proofs.Common.{drop}
use Rattle.command_output.specs.Prints.{sink_seen}
use Rattle.reply_writing.proofs.Writes.{WroteFirst}
use Rattle.reply_writing.proofs.replies.write_replies.Given as goal

-- the frames of the replies so far are written
abbrev pub invariant-loop-reply : goal.invariant-loop-reply
invariant-loop-reply g l =
    WroteFirst (sink_seen (g.O.Sink.taken l.fn.output) (g.O.Sink.faults l.fn.output) (g.O.Sink.writes l.fn.output))
    (sink_seen (g.O.Sink.taken l.output) (g.O.Sink.faults l.output) (g.O.Sink.writes l.output)) l.replies (drop l.reply-index l.replies)
