-- A recorded session, as a source tells it.
use Rattle.std.proofs.Common.{◌≡◌, refl, subst, ℕ, List, [], Some}
use Rattle.ls_outside.specs.Sources.{AreCuts}
use Rattle.command_output.specs.Reads.{SourceSeen, source_seen}
use Rattle.command_output.specs.Streams.{streams}
use Rattle.session_serving.specs.ServeOutcome.{Serves}
use Rattle.session_serving.specs.SessionEnds.{session_status}
use Rattle.session_serving.specs.declared.serve.SessionEnd.{SessionEnd}
use Rattle.file_runs.specs.WorkOutcome.{WorkSeen}
use Rattle.scheme_ls.specs.ReplayOutcome.{Replays, recording_piece}

-- a session over a source that tells these pieces and has given none yet
pub replays : (bytes : List ℕ) (pieces : List (List ℕ)) (old new : WorkSeen) (before after : SourceSeen) (end : SessionEnd) → AreCuts recording_piece bytes pieces → before ≡ source_seen (Some pieces) 0 [] → after.faults ≡ 0 →
    Serves (streams before old.sink) (streams after new.sink) old.steps new.steps end → Replays bytes old new (session_status end)
replays bytes pieces old new before after end cut begins sure serves = record {
  pieces = pieces;
  cut = cut;
  after = after;
  sure = sure;
  end = end;
  serves = subst (λ (s : SourceSeen). Serves (streams s old.sink) (streams after new.sink) old.steps new.steps end) begins serves;
  status_is = refl;
}
