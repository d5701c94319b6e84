-- What the number of a run tells of its cause: a read or a fetch that failed, a write that failed, words that are no command.
use Rattle.std.proofs.Common.{◌≡◌, ◌∙◌, ◌⊎◌, inl, inr, ap, subst, ℕ, ◌<◌, List, Bool, true, false, Err, arith}
use Rattle.ls_base.specs.declared.places.Pos.{Pos}
use Rattle.ls_outside.specs.Counts.{Fails}
use Rattle.command_words.specs.Commands.{CommandOf}
use Rattle.command_words.specs.declared.command.Command.{Command}
use Rattle.command_words.specs.declared.command.Command.TheVariants.{Arrows, Check, Rename, Replay, Selfrun, Serve, ServeAhead, TooManyFiles, Unknown}
use Rattle.file_fetching.specs.FilesSeen.{FilesSeen}
use Rattle.file_fetching.specs.Fetching.{FetchStopsAs, FetchingEndsAs}
use Rattle.file_fetching.specs.declared.fetching.FetchStop.{FetchStop}
use Rattle.file_fetching.specs.declared.fetching.FetchStop.TheVariants as fetch
use Rattle.file_commands.specs.declared.renaming.Renamed.{Renamed}
use Rattle.file_commands.specs.declared.renaming.Renamed.TheVariants as renamed
use Rattle.lookahead.specs.declared.looking.Looking.TheVariants.{Ahead}
use Rattle.session_serving.specs.AheadOutcome.{PiecesEndAs, ServeEndsBy}
use Rattle.text_arrows.specs.ArrowsOutcome.{ArrowsEndsAs}
use Rattle.command_output.specs.Prints.{SinkSeen}
use Rattle.command_output.specs.Reads.{SourceSeen}
use Rattle.scheme_ls.specs.RunOutcome.{CommandEndsAs, NothingDone, RunEnds, Seen}
use Rattle.session_serving.specs.ServeOutcome.{ServeEndsAs, SessionEndsAs, SourceEndsAs}
use Rattle.text_arrows.specs.ArrowsStatuses.{arrows_status}
use Rattle.command_output.specs.Statuses.{code_of, fetch_status}
use Rattle.session_serving.specs.SessionEnds.{session_status}
use Rattle.command_output.specs.Streams.{Streams}
use Rattle.file_runs.specs.WorkOutcome.{CheckEndsAs, PrintsLines, RunsOut, RenameEndsAs, WorkEndsAs, WorkSeen, check_status, rename_status, work_seen}
use Rattle.scheme_ls.specs.ReplayOutcome.{ReplayEndsAs, Replays}
use Rattle.session_serving.specs.declared.answering.Exit.TheVariants as exits
use Rattle.text_arrows.specs.declared.arrows.ArrowsEnd.{ArrowsEnd}
use Rattle.text_arrows.specs.declared.arrows.ArrowsEnd.TheVariants as arrows
use Rattle.text_arrows.specs.declared.arrows.TextEnd.TheVariants as text
use Rattle.session_serving.specs.declared.serve.SessionEnd.{SessionEnd}
use Rattle.session_serving.specs.declared.serve.SessionEnd.TheVariants as serve
use Rattle.command_output.specs.declared.status.Status.{Status}
use Rattle.command_output.specs.declared.status.Status.TheVariants.{Done, Refused, BadWords, SinkFault}

-- ---- a read or a fetch failed: 3

-- a number that isn't 3 for what a work prints
abbrev IsOther : Status → Type 0
IsOther end = (3 ≡ code_of end) → ⊥

lines_read : (lines : List ℕ) (end status : Status) (old new : SinkSeen) → IsOther end → PrintsLines lines end old new status → 3 ≡ code_of status → ⊥
lines_read lines end status old new other (inl done) is = other (is ∙ ap code_of done.0)
lines_read lines end status old new other (inr failed) is = omega (arith, is ∙ ap code_of failed.0)

work_read : (lines : List ℕ) (end : Status) (uses : ℕ) (old new : WorkSeen) (status : Status) → IsOther end → WorkEndsAs lines end uses old new status → 3 ≡ code_of status → ⊥
work_read lines end uses old new status other (inl done) is = lines_read lines end status old.sink new.sink other done.0 is
work_read lines end uses old new status other (inr out) is = omega (arith, is ∙ ap code_of out.0)

check_other : (has_error : Bool) → IsOther (check_status has_error)
check_other true is = omega (arith, is)
check_other false is = omega (arith, is)

rename_other : (r : Renamed) → IsOther (rename_status r)
rename_other (renamed.Edits lines) is = omega (arith, is)
rename_other (renamed.Refused lines) is = omega (arith, is)
rename_other (renamed.NotUtf8 lines) is = omega (arith, is)

done_other : IsOther Done
done_other is = omega (arith, is)

-- of the files
several_read : (names : List (List ℕ)) (max : ℕ) (old new : FilesSeen) (stop : FetchStop) → FetchingEndsAs old new names max (Err stop) → 3 ≡ code_of (fetch_status stop) → Fails old.faults new.faults
several_read names max old new fetch.Long stops is = absurd (omega (arith, is))
several_read names max old new fetch.Failed stops is = subst (λ (n : ℕ). Fails n new.faults) stops.fetched.no_fault stops.stops.failed
several_read names max old new fetch.Memory stops is = absurd (omega (arith, is))

one_read : (name : List ℕ) (max : ℕ) (old new : FilesSeen) (stop : FetchStop) → FetchStopsAs old new name max stop → 3 ≡ code_of (fetch_status stop) → Fails old.faults new.faults
one_read name max old new fetch.Long stops is = absurd (omega (arith, is))
one_read name max old new fetch.Failed stops is = stops.failed
one_read name max old new fetch.Memory stops is = absurd (omega (arith, is))

-- of the source
arrows_read : (old new : Streams) (before now : ℕ) (end : ArrowsEnd) → ArrowsEndsAs old new before now end → 3 ≡ code_of (arrows_status end) → Fails old.source.faults new.source.faults
arrows_read old new before now (arrows.Answered text.Printed) ends is = absurd (omega (arith, is))
arrows_read old new before now (arrows.Answered text.Refused) ends is = absurd (omega (arith, is))
arrows_read old new before now (arrows.Answered text.WriteFailed) ends is = absurd (omega (arith, is))
arrows_read old new before now (arrows.Answered text.NoMemory) ends is = absurd (omega (arith, is))
arrows_read old new before now arrows.TooLong ends is = absurd (omega (arith, is))
arrows_read old new before now arrows.ReadFailed ends is = ends.0.fails.failed
arrows_read old new before now arrows.NoMemory ends is = absurd (omega (arith, is))

serve_read : (old new : Streams) (bytes : List ℕ) (end : SessionEnd) → SourceEndsAs old new bytes end → 3 ≡ code_of (session_status end) → Fails old.source.faults new.source.faults
serve_read old new bytes (serve.Exited exits.Clean) ends is = absurd (omega (arith, is))
serve_read old new bytes (serve.Exited exits.Early) ends is = absurd (omega (arith, is))
serve_read old new bytes serve.InputEnded ends is = absurd (omega (arith, is))
serve_read old new bytes serve.ReadFailed ends is = ends.failed
serve_read old new bytes serve.WriteFailed ends is = absurd (omega (arith, is))
serve_read old new bytes serve.NoMemory ends is = absurd (omega (arith, is))
serve_read old new bytes serve.FrameFault ends is = absurd (omega (arith, is))
serve_read old new bytes serve.Endless ends is = absurd (omega (arith, is))

ahead_read : (old new : Streams) (pieces : List (List ℕ)) (end : SessionEnd) → PiecesEndAs Ahead old new pieces end → 3 ≡ code_of (session_status end) → Fails old.source.faults new.source.faults
ahead_read old new pieces (serve.Exited exits.Clean) ends is = absurd (omega (arith, is))
ahead_read old new pieces (serve.Exited exits.Early) ends is = absurd (omega (arith, is))
ahead_read old new pieces serve.InputEnded ends is = absurd (omega (arith, is))
ahead_read old new pieces serve.ReadFailed ends is = ends.failed
ahead_read old new pieces serve.WriteFailed ends is = absurd (omega (arith, is))
ahead_read old new pieces serve.NoMemory ends is = absurd (omega (arith, is))
ahead_read old new pieces serve.FrameFault ends is = absurd (omega (arith, is))
ahead_read old new pieces serve.Endless ends is = absurd (omega (arith, is))

-- a count that stands at 0 didn't rise
none_rose : (n : ℕ) → n ≡ 0 → Fails 0 n → ⊥
none_rose n none fails = rose fails.rose
  where
    rose : (0 < n) ⊎ (n ≡ 18446744073709551615) → ⊥
    rose (inl more) = omega (arith, none, more)
    rose (inr last) = omega (arith, none, last)

replays_read : (bytes : List ℕ) (old new : WorkSeen) (status : Status) → Replays bytes old new status → 3 ≡ code_of status → ⊥
replays_read bytes old new status r is =
    none_rose r.after.faults r.sure (serve_read _ _ r.serves.ends.bytes r.end r.serves.ends.source (is ∙ ap code_of r.status_is))

check_read : (names : List (List ℕ)) (old new : WorkSeen) (status : Status) → CheckEndsAs names old new status → 3 ≡ code_of status → Fails old.files.faults new.files.faults
check_read names old new status (inl done) is = absurd (work_read _ _ _ old new status (check_other _) done.ends is)
check_read names old new status (inr stopped) is = several_read names _ old.files new.files stopped.stop stopped.fetching (is ∙ ap code_of stopped.stops.status_is)

rename_read : (name : List ℕ) (position : Pos) (new_name : List ℕ) (old new : WorkSeen) (status : Status) → RenameEndsAs name position new_name old new status → 3 ≡ code_of status → Fails old.files.faults new.files.faults
rename_read name position new_name old new status (inl done) is = absurd (work_read _ _ _ old new status (rename_other _) done.ends is)
rename_read name position new_name old new status (inr stopped) is = one_read name _ old.files new.files stopped.stop stopped.fetching (is ∙ ap code_of stopped.stops.status_is)

replay_read : (name : List ℕ) (old new : WorkSeen) (status : Status) → ReplayEndsAs name old new status → 3 ≡ code_of status → Fails old.files.faults new.files.faults
replay_read name old new status (inl done) is = by_end done.ends
  where
    by_end : Replays done.content old new status ⊎ RunsOut old.sink new.sink status → Fails old.files.faults new.files.faults
    by_end (inl replays) = absurd (replays_read done.content old new status replays is)
    by_end (inr out) = absurd (omega (arith, is ∙ ap code_of out.0))
replay_read name old new status (inr stopped) is = one_read name _ old.files new.files stopped.stop stopped.fetching (is ∙ ap code_of stopped.stops.status_is)

module _ (old new : Seen) where
  abbrev AReadFailed : Type 0
  AReadFailed = Fails old.streams.source.faults new.streams.source.faults ⊎ Fails old.files.faults new.files.faults

  command_read : (command : Command) (status : Status) → CommandEndsAs command old new status → 3 ≡ code_of status → AReadFailed
  command_read Arrows status ends is = inl (arrows_read old.streams new.streams old.steps new.steps ends.end ends.ends (is ∙ ap code_of ends.status_is))
  command_read Serve status ends is = inl (serve_read old.streams new.streams ends.serves.ends.bytes ends.end ends.serves.ends.source (is ∙ ap code_of ends.status_is))
  command_read ServeAhead status ends is = inl (ahead_read old.streams new.streams ends.serves.ends.pieces ends.end ends.serves.ends.source (is ∙ ap code_of ends.status_is))
  command_read (Replay file) status ends is = inr (replay_read file _ _ status ends.ends is)
  command_read (Check files) status ends is = inr (check_read files _ _ status ends.ends is)
  command_read TooManyFiles status ends is = absurd (omega (arith, is ∙ ap code_of ends.0))
  command_read (Rename file position name) status ends is = inr (rename_read file position name _ _ status ends.ends is)
  command_read (Selfrun libraries) status ends is = absurd (work_read _ _ _ (work_seen old.files old.streams.sink old.steps) (work_seen new.files new.streams.sink new.steps) status done_other ends.ends.ends is)
  command_read Unknown status ends is = absurd (lines_read _ BadWords status _ _ (λ other. omega (arith, other)) ends.0.prints is)

  either_read : (command : Command) (status : Status) → CommandEndsAs command old new status ⊎ NothingDone old new status → 3 ≡ code_of status → AReadFailed
  either_read command status (inl ends) is = command_read command status ends is
  either_read command status (inr none) is = absurd (omega (arith, is ∙ ap code_of none.0))

  pub a_read_failed : (words : List (List ℕ)) → RunEnds words old new 3 → AReadFailed
  a_read_failed words run = either_read run.command run.status run.ends run.number

-- ---- a write failed: 5

-- a status that isn't 5
abbrev IsWritten : Status → Type 0
IsWritten end = (5 ≡ code_of end) → ⊥

fetch_written : (stop : FetchStop) → IsWritten (fetch_status stop)
fetch_written fetch.Long is = omega (arith, is)
fetch_written fetch.Failed is = omega (arith, is)
fetch_written fetch.Memory is = omega (arith, is)

check_written : (has_error : Bool) → IsWritten (check_status has_error)
check_written true is = omega (arith, is)
check_written false is = omega (arith, is)

rename_written : (r : Renamed) → IsWritten (rename_status r)
rename_written (renamed.Edits lines) is = omega (arith, is)
rename_written (renamed.Refused lines) is = omega (arith, is)
rename_written (renamed.NotUtf8 lines) is = omega (arith, is)

lines_fail : (lines : List ℕ) (end status : Status) (old new : SinkSeen) → IsWritten end → PrintsLines lines end old new status → 5 ≡ code_of status → Fails old.faults new.faults
lines_fail lines end status old new other (inl done) is = absurd (other (is ∙ ap code_of done.0))
lines_fail lines end status old new other (inr failed) is = failed.1.failed

work_fail : (lines : List ℕ) (end : Status) (uses : ℕ) (old new : WorkSeen) (status : Status) → IsWritten end → WorkEndsAs lines end uses old new status → 5 ≡ code_of status → Fails old.sink.faults new.sink.faults
work_fail lines end uses old new status other (inl done) is = lines_fail lines end status old.sink new.sink other done.0 is
work_fail lines end uses old new status other (inr out) is = absurd (omega (arith, is ∙ ap code_of out.0))

arrows_fail : (old new : Streams) (before now : ℕ) (end : ArrowsEnd) → ArrowsEndsAs old new before now end → 5 ≡ code_of (arrows_status end) → Fails old.sink.faults new.sink.faults
arrows_fail old new before now (arrows.Answered text.Printed) ends is = absurd (omega (arith, is))
arrows_fail old new before now (arrows.Answered text.Refused) ends is = absurd (omega (arith, is))
arrows_fail old new before now (arrows.Answered text.WriteFailed) ends is = ends.ends.prints.failed
arrows_fail old new before now (arrows.Answered text.NoMemory) ends is = absurd (omega (arith, is))
arrows_fail old new before now arrows.TooLong ends is = absurd (omega (arith, is))
arrows_fail old new before now arrows.ReadFailed ends is = absurd (omega (arith, is))
arrows_fail old new before now arrows.NoMemory ends is = absurd (omega (arith, is))

serve_fail : (old new : Streams) (end : SessionEnd) → ServeEndsAs old new end → 5 ≡ code_of (session_status end) → Fails old.sink.faults new.sink.faults
serve_fail old new (serve.Exited exits.Clean) ends is = absurd (omega (arith, is))
serve_fail old new (serve.Exited exits.Early) ends is = absurd (omega (arith, is))
serve_fail old new serve.InputEnded ends is = absurd (omega (arith, is))
serve_fail old new serve.ReadFailed ends is = absurd (omega (arith, is))
serve_fail old new serve.WriteFailed ends is = ends.session.1.prints.failed
serve_fail old new serve.NoMemory ends is = absurd (omega (arith, is))
serve_fail old new serve.FrameFault ends is = absurd (omega (arith, is))
serve_fail old new serve.Endless ends is = absurd (omega (arith, is))

ahead_fail : (old new : Streams) (end : SessionEnd) → ServeEndsBy Ahead old new end → 5 ≡ code_of (session_status end) → Fails old.sink.faults new.sink.faults
ahead_fail old new (serve.Exited exits.Clean) ends is = absurd (omega (arith, is))
ahead_fail old new (serve.Exited exits.Early) ends is = absurd (omega (arith, is))
ahead_fail old new serve.InputEnded ends is = absurd (omega (arith, is))
ahead_fail old new serve.ReadFailed ends is = absurd (omega (arith, is))
ahead_fail old new serve.WriteFailed ends is = ends.session.1.prints.failed
ahead_fail old new serve.NoMemory ends is = absurd (omega (arith, is))
ahead_fail old new serve.FrameFault ends is = absurd (omega (arith, is))
ahead_fail old new serve.Endless ends is = absurd (omega (arith, is))

check_fail : (names : List (List ℕ)) (old new : WorkSeen) (status : Status) → CheckEndsAs names old new status → 5 ≡ code_of status → Fails old.sink.faults new.sink.faults
check_fail names old new status (inl done) is = work_fail _ _ _ old new status (check_written _) done.ends is
check_fail names old new status (inr stopped) is = absurd (fetch_written stopped.stop (is ∙ ap code_of stopped.stops.status_is))

rename_fail : (name : List ℕ) (position : Pos) (new_name : List ℕ) (old new : WorkSeen) (status : Status) → RenameEndsAs name position new_name old new status → 5 ≡ code_of status → Fails old.sink.faults new.sink.faults
rename_fail name position new_name old new status (inl done) is = work_fail _ _ _ old new status (rename_written _) done.ends is
rename_fail name position new_name old new status (inr stopped) is = absurd (fetch_written stopped.stop (is ∙ ap code_of stopped.stops.status_is))

replay_fail : (name : List ℕ) (old new : WorkSeen) (status : Status) → ReplayEndsAs name old new status → 5 ≡ code_of status → Fails old.sink.faults new.sink.faults
replay_fail name old new status (inl done) is = by_end done.ends
  where
    by_end : Replays done.content old new status ⊎ RunsOut old.sink new.sink status → Fails old.sink.faults new.sink.faults
    by_end (inl replays) = serve_fail _ _ replays.end replays.serves.ends (is ∙ ap code_of replays.status_is)
    by_end (inr out) = absurd (omega (arith, is ∙ ap code_of out.0))
replay_fail name old new status (inr stopped) is = absurd (fetch_written stopped.stop (is ∙ ap code_of stopped.stops.status_is))

module _ (old new : Seen) where
  abbrev AWriteFailed : Type 0
  AWriteFailed = Fails old.streams.sink.faults new.streams.sink.faults

  command_fail : (command : Command) (status : Status) → CommandEndsAs command old new status → 5 ≡ code_of status → AWriteFailed
  command_fail Arrows status ends is = arrows_fail old.streams new.streams old.steps new.steps ends.end ends.ends (is ∙ ap code_of ends.status_is)
  command_fail Serve status ends is = serve_fail old.streams new.streams ends.end ends.serves.ends (is ∙ ap code_of ends.status_is)
  command_fail ServeAhead status ends is = ahead_fail old.streams new.streams ends.end ends.serves.ends (is ∙ ap code_of ends.status_is)
  command_fail (Replay file) status ends is = replay_fail file _ _ status ends.ends is
  command_fail (Check files) status ends is = check_fail files _ _ status ends.ends is
  command_fail TooManyFiles status ends is = absurd (omega (arith, is ∙ ap code_of ends.0))
  command_fail (Rename file position name) status ends is = rename_fail file position name _ _ status ends.ends is
  command_fail (Selfrun libraries) status ends is = work_fail _ _ _ (work_seen old.files old.streams.sink old.steps) (work_seen new.files new.streams.sink new.steps) status (λ other. omega (arith, other)) ends.ends.ends is
  command_fail Unknown status ends is = lines_fail _ BadWords status _ _ (λ other. omega (arith, other)) ends.0.prints is

  either_fail : (command : Command) (status : Status) → CommandEndsAs command old new status ⊎ NothingDone old new status → 5 ≡ code_of status → AWriteFailed
  either_fail command status (inl ends) is = command_fail command status ends is
  either_fail command status (inr none) is = absurd (omega (arith, is ∙ ap code_of none.0))

  pub a_write_failed : (words : List (List ℕ)) → RunEnds words old new 5 → AWriteFailed
  a_write_failed words run = either_fail run.command run.status run.ends run.number
