-- How `replay FILE` ends: the bytes of the file are those of a session.
use Rattle.std.specs.Prelude.{◌≡◌, ◌⊎◌, ℕ, List, [], Some}
use Rattle.ls_outside.specs.Sources.{AreCuts}
use Rattle.file_fetching.specs.Fetching.{Fetches, max_recording}
use Rattle.command_output.specs.Reads.{SourceSeen, source_seen}
use Rattle.command_output.specs.Streams.{streams}
use Rattle.command_output.specs.declared.status.Status.{Status}
use Rattle.session_serving.specs.ServeOutcome.{Serves}
use Rattle.session_serving.specs.SessionEnds.{session_status}
use Rattle.session_serving.specs.declared.serve.SessionEnd.{SessionEnd}
use Rattle.file_runs.specs.WorkOutcome.{RunsOut, StopsAtFile, WorkSeen}

-- how long the pieces are in which a recorded session is read
abbrev pub recording_piece : ℕ
recording_piece = 65536

-- a session over a source that never fails, and tells these bytes in such pieces
pub record Replays (bytes : List ℕ) (old new : WorkSeen) (status : Status) : Type 0 where
  pub pieces : List (List ℕ)
  pub cut : AreCuts recording_piece bytes pieces
  pub after : SourceSeen
  pub sure : after.faults ≡ 0
  pub end : SessionEnd
  pub serves : Serves (streams (source_seen (Some pieces) 0 []) old.sink) (streams after new.sink) old.steps new.steps end
  pub status_is : status ≡ session_status end

-- the file was fetched, and its bytes were a session's, or memory ran out before
pub record ReplaysFile (name : List ℕ) (old new : WorkSeen) (status : Status) : Type 0 where
  pub content : List ℕ
  pub fetched : Fetches old.files new.files name max_recording content
  pub ends : Replays content old new status ⊎ RunsOut old.sink new.sink status

abbrev pub ReplayEndsAs : (name : List ℕ) → WorkSeen → WorkSeen → Status → Type 0
ReplayEndsAs name old new status = ReplaysFile name old new status ⊎ StopsAtFile name max_recording old new status
