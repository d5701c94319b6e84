-- How a run ends, by the command that its words ask for.
use Rattle.std.specs.Prelude.{◌≡◌, ◌⊎◌, ℕ, List}
use Rattle.command_words.specs.Commands.{CommandOf}
use Rattle.command_words.specs.declared.command.Command.{Command}
use Rattle.command_words.specs.declared.command.Command.TheVariants.{Arrows, Check, Rename, Replay, Selfrun, Serve, ServeAhead, TooManyFiles, Unknown}
use Rattle.file_fetching.specs.FilesSeen.{FilesSeen}
use Rattle.session_serving.specs.AheadOutcome.{ServesAhead}
use Rattle.text_arrows.specs.ArrowsOutcome.{ArrowsEndsAs, OpensNone}
use Rattle.command_output.specs.Prints.{SinkSeen}
use Rattle.command_output.specs.Reads.{SourceSeen}
use Rattle.session_serving.specs.ServeOutcome.{Serves}
use Rattle.text_arrows.specs.ArrowsStatuses.{arrows_status}
use Rattle.command_output.specs.Statuses.{code_of}
use Rattle.session_serving.specs.SessionEnds.{session_status}
use Rattle.command_output.specs.Streams.{Streams}
use Rattle.scheme_ls.specs.Wording.{usage_text}
use Rattle.file_runs.specs.WorkOutcome.{CheckEndsAs, PrintsLines, RenameEndsAs, SelfrunEndsAs, WorkSeen, work_seen}
use Rattle.scheme_ls.specs.ReplayOutcome.{ReplayEndsAs}
use Rattle.text_arrows.specs.declared.arrows.ArrowsEnd.{ArrowsEnd}
use Rattle.session_serving.specs.declared.serve.SessionEnd.{SessionEnd}
use Rattle.command_output.specs.declared.status.Status.{Status}
use Rattle.command_output.specs.declared.status.Status.TheVariants.{BadWords, NoMemory, TooLong}

-- what the outside and the counter of steps show at a moment
pub record Seen : Type 0 where
  pub streams : Streams
  pub files : FilesSeen
  pub steps : ℕ

abbrev pub seen : SourceSeen → SinkSeen → FilesSeen → ℕ → Seen
seen source sink files steps = record { streams = record { source = source; sink = sink }; files = files; steps = steps }

-- the same with another number of steps
abbrev pub counting : Seen → ℕ → Seen
counting s n = record s { steps = n }

-- no file was asked for
abbrev pub AsksNoFile : Seen → Seen → Type 0
AsksNoFile old new = new.files ≡ old.files

-- and no macro use was counted
pub record AsksNothing (old new : Seen) : Type 0 where
  pub files : AsksNoFile old new
  pub steps : new.steps ≡ old.steps

-- `arrows` ended with a status, and counts the macro uses of the text that it opens; none, where it opens none
pub record ArrowsDone (old new : Seen) (status : Status) : Type 0 where
  pub end : ArrowsEnd
  pub ends : ArrowsEndsAs old.streams new.streams old.steps new.steps end
  pub files : AsksNoFile old new
  pub uncounted : OpensNone end → new.steps ≡ old.steps
  pub status_is : status ≡ arrows_status end

-- `serve` ended with a status
pub record ServeDone (old new : Seen) (status : Status) : Type 0 where
  pub end : SessionEnd
  pub serves : Serves old.streams new.streams old.steps new.steps end
  pub files : AsksNoFile old new
  pub status_is : status ≡ session_status end

-- `serve --ahead` ended with a status
pub record ServeAheadDone (old new : Seen) (status : Status) : Type 0 where
  pub end : SessionEnd
  pub serves : ServesAhead old.streams new.streams old.steps new.steps end
  pub files : AsksNoFile old new
  pub status_is : status ≡ session_status end

-- the usage was printed, or a write of it failed
abbrev pub PrintsUsage : SinkSeen → SinkSeen → Status → Type 0
PrintsUsage old new status = PrintsLines usage_text BadWords old new status

-- nothing was read, and the usage was printed
pub record UsageDone (old new : Streams) (status : Status) : Type 0 where
  pub unread : new.source ≡ old.source
  pub prints : PrintsUsage old.sink new.sink status

-- nothing was read, and a command worked that reads no source
pub record Works (EndsAs : WorkSeen → WorkSeen → Status → Type 0) (old new : Seen) (status : Status) : Type 0 where
  pub unread : new.streams.source ≡ old.streams.source
  pub ends : EndsAs (work_seen old.files old.streams.sink old.steps) (work_seen new.files new.streams.sink new.steps) status

-- how a command ends
abbrev pub CommandEndsAs : Command → Seen → Seen → Status → Type 0
CommandEndsAs Arrows old new status = ArrowsDone old new status
CommandEndsAs Serve old new status = ServeDone old new status
CommandEndsAs ServeAhead old new status = ServeAheadDone old new status
CommandEndsAs (Replay file) old new status = Works (ReplayEndsAs file) old new status
CommandEndsAs (Check files) old new status = Works (CheckEndsAs files) old new status
CommandEndsAs TooManyFiles old new status = (status ≡ TooLong) × (new ≡ old)
CommandEndsAs (Rename file position name) old new status = Works (RenameEndsAs file position name) old new status
CommandEndsAs (Selfrun libraries) old new status = Works (SelfrunEndsAs libraries) old new status
CommandEndsAs Unknown old new status = UsageDone old.streams new.streams status × AsksNothing old new

-- memory ran out for the words, and nothing was done
abbrev pub NothingDone : Seen → Seen → Status → Type 0
NothingDone old new status = (status ≡ NoMemory) × (new ≡ old)

-- how a run ends: as the command does that its words ask for
pub record RunEnds (words : List (List ℕ)) (old new : Seen) (code : ℕ) : Type 0 where
  pub command : Command
  pub asked : CommandOf words command
  pub status : Status
  pub ends : CommandEndsAs command old new status ⊎ NothingDone old new status
  pub number : code ≡ code_of status
