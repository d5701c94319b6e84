-- The pieces of the content are a session's.
use Rattle.std.proofs.Common.{List, ℕ, inl, subst}
use Rattle.file_fetching.specs.FilesSeen.{files_seen}
use Rattle.file_fetching.specs.Fetching.{Fetches, max_recording}
use Rattle.command_output.specs.Prints.{sink_seen}
use Rattle.file_runs.specs.WorkOutcome.{work_seen}
use Rattle.scheme_ls.proofs.replay.replay.Goals as goal

pub returns-in-Ok-pieces_of : goal.returns-in-Ok-pieces_of
returns-in-Ok-pieces_of g c =
    let a = c.args in
    let old = work_seen (files_seen (g.F.Files.held a.files.now) (g.F.Files.asked a.files.now) (g.F.Files.reads a.files.now) (g.F.Files.faults a.files.now)) (sink_seen (g.O.Sink.taken a.output.now) (g.O.Sink.faults a.output.now) (g.O.Sink.writes a.output.now)) a.steps.now in
    let f = c.fetch_recording.new.files in
    let fetched = files_seen (g.F.Files.held f) (g.F.Files.asked f) (g.F.Files.reads f) (g.F.Files.faults f) in
    let content = c.in-Ok.recording.items in
    let r = c.replay_pieces.ensures old.files content c.in-Ok-pieces_of.ensures in
    inl (record {
      content = content;
      fetched = subst (λ (n : List ℕ). Fetches old.files fetched n max_recording content) c.as_str.ensures c.in-Ok.ensures;
      ends = inl (record { pieces = r.pieces; cut = r.cut; after = r.after; sure = r.sure; end = r.end; serves = r.serves; status_is = r.status_is });
    })
