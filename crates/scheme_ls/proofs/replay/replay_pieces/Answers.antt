-- The source tells the pieces, and its count of faults stays at 0.
use Rattle.std.proofs.Common.{refl, sym, subst, Option, List, ℕ}
use Rattle.ls_outside.specs.Left.{pieces_left}
use Rattle.ls_outside.specs.SureTold.{sure_left, sure_reads}
use Rattle.command_output.specs.Prints.{sink_seen}
use Rattle.command_output.specs.Reads.{source_seen}
use Rattle.file_runs.specs.WorkOutcome.{work_seen}
use Rattle.scheme_ls.specs.ReplayOutcome.{Replays}
use Rattle.command_output.specs.declared.status.Status.{Status}
use Rattle.scheme_ls.proofs.ReplayLaws.{replays}
use Rattle.scheme_ls.proofs.replay.replay_pieces.Goals as goal

pub returns : goal.returns
returns g c = λ files bytes cut.
    let a = c.args in
    let old = work_seen files (sink_seen (g.O.Sink.taken a.output.now) (g.O.Sink.faults a.output.now) (g.O.Sink.writes a.output.now)) a.steps.now in
    let o = c.serve.new.output in
    let new = work_seen files (sink_seen (g.O.Sink.taken o) (g.O.Sink.faults o) (g.O.Sink.writes o)) c.serve.new.steps in
    let before = c.new-source.result in
    let after = c.serve.new.input in
    subst (λ (s : Status). Replays bytes old new s) (sym c.status.ensures)
    (replays bytes (pieces_left a.pieces) old new (source_seen (sure_left before) 0 (sure_reads before)) (source_seen (sure_left after) 0 (sure_reads after)) c.serve.result cut
    (λ j. source_seen (c.new-source.ensures.left j) 0 (c.new-source.ensures.unread j)) refl c.serve.ensures)
