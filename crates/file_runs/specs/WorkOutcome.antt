-- How a command ends that works on files, or on a workspace made of a number, and prints the lines of its work.
use Rattle.std.specs.Prelude.{◌≡◌, ◌⊎◌, ℕ, ◌+◌, List, Bool, true, false, Err}
use Rattle.std.specs.FinMap.{entries}
use Rattle.ls_base.specs.Limits.{max_text}
use Rattle.ls_base.specs.declared.places.Pos.{Pos}
use Rattle.read_documents.specs.Readings.{Read, AreReadAs, uses_in}
use Rattle.rename_conditions.specs.Readers.{Reader, IsReader}
use Rattle.file_fetching.specs.FilesSeen.{FilesSeen}
use Rattle.file_fetching.specs.Fetching.{FetchStopsAs, Fetches, FetchesAll, FetchingEndsAs}
use Rattle.file_fetching.specs.declared.fetching.FetchStop.{FetchStop}
use Rattle.file_commands.specs.Checking.{checked_in, opened}
use Rattle.file_commands.specs.Renaming.{renamed_in, renaming_uses}
use Rattle.file_commands.specs.declared.renaming.Renamed.{Renamed}
use Rattle.file_commands.specs.declared.renaming.Renamed.TheVariants.{Edits, Refused, NotUtf8}
use Rattle.generated_workspace.specs.Generated.{selfrun_texts}
use Rattle.generated_workspace.specs.Selfrun.{selfrun_lines}
pub use Rattle.generated_workspace.specs.Selfrun.{selfrun_uses}
use Rattle.command_output.specs.Prints.{Prints, PrintsFront, SinkSeen}
use Rattle.command_output.specs.Statuses.{fetch_status}
use Rattle.command_output.specs.declared.status.Status.{Status}
use Rattle.command_output.specs.declared.status.Status.TheVariants as statuses

-- what the files, the sink and the counter of steps show at a moment
pub record WorkSeen : Type 0 where
  pub files : FilesSeen
  pub sink : SinkSeen
  pub steps : ℕ

abbrev pub work_seen : FilesSeen → SinkSeen → ℕ → WorkSeen
work_seen files sink steps = record { files = files; sink = sink; steps = steps }

-- ---- lines

-- lines were printed, and the command ended so, or a write of them failed
abbrev pub PrintsLines : (lines : List ℕ) → (end : Status) → SinkSeen → SinkSeen → Status → Type 0
PrintsLines lines end old new status = ((status ≡ end) × Prints old new lines) ⊎ ((status ≡ statuses.SinkFault) × PrintsFront old new lines)

-- memory ran out, and nothing was printed
abbrev pub RunsOut : SinkSeen → SinkSeen → Status → Type 0
RunsOut old new status = (status ≡ statuses.NoMemory) × (new ≡ old)

-- the lines of the work were printed and its macro uses counted, or memory ran out before anything was printed
abbrev pub WorkEndsAs : (lines : List ℕ) → (end : Status) → (uses : ℕ) → WorkSeen → WorkSeen → Status → Type 0
WorkEndsAs lines end uses old new status =
    (PrintsLines lines end old.sink new.sink status × (new.steps ≡ old.steps + uses)) ⊎ RunsOut old.sink new.sink status

-- ---- files that aren't fetched

-- fetching stopped so, and nothing was printed or counted
pub record FetchingStops (stop : FetchStop) (old new : WorkSeen) (status : Status) : Type 0 where
  pub status_is : status ≡ fetch_status stop
  pub unprinted : new.sink ≡ old.sink
  pub uncounted : new.steps ≡ old.steps

-- ---- `check FILE...`

-- whether an Error was printed
abbrev pub check_status : Bool → Status
check_status true = statuses.Refused
check_status false = statuses.Done

-- all files were fetched, and what is printed is what `checked_in` says of their contents
pub record ChecksFiles (names : List (List ℕ)) (old new : WorkSeen) (status : Status) : Type 0 where
  pub contents : List (List ℕ)
  pub fetched : FetchesAll old.files new.files names max_text contents
  pub rs : List Read
  pub read : AreReadAs (entries (opened names contents)) rs
  pub ends : let checked = checked_in rs names contents in WorkEndsAs checked.lines (check_status checked.has_error) (uses_in rs) old new status

-- a file wasn't fetched
pub record StopsAtFiles (names : List (List ℕ)) (old new : WorkSeen) (status : Status) : Type 0 where
  pub stop : FetchStop
  pub fetching : FetchingEndsAs old.files new.files names max_text (Err stop)
  pub stops : FetchingStops stop old new status

abbrev pub CheckEndsAs : (names : List (List ℕ)) → WorkSeen → WorkSeen → Status → Type 0
CheckEndsAs names old new status = ChecksFiles names old new status ⊎ StopsAtFiles names old new status

-- ---- one file

-- it wasn't fetched
pub record StopsAtFile (name : List ℕ) (max : ℕ) (old new : WorkSeen) (status : Status) : Type 0 where
  pub stop : FetchStop
  pub fetching : FetchStopsAs old.files new.files name max stop
  pub stops : FetchingStops stop old new status

-- ---- `rename FILE LINE COL NAME`

abbrev pub renamed_lines : Renamed → List ℕ
renamed_lines (Edits lines) = lines
renamed_lines (Refused lines) = lines
renamed_lines (NotUtf8 lines) = lines

abbrev pub rename_status : Renamed → Status
rename_status (Edits lines) = statuses.Done
rename_status (Refused lines) = statuses.Refused
rename_status (NotUtf8 lines) = statuses.Refused

-- the file was fetched, and what is printed is what `renamed_in` says of its content
pub record RenamesFile (name : List ℕ) (position : Pos) (new_name : List ℕ) (old new : WorkSeen) (status : Status) : Type 0 where
  pub content : List ℕ
  pub fetched : Fetches old.files new.files name max_text content
  pub r : Reader
  pub rules : IsReader r
  pub ends : let renamed = renamed_in r name content position new_name in
      WorkEndsAs (renamed_lines renamed) (rename_status renamed) (renaming_uses r name content position new_name) old new status

abbrev pub RenameEndsAs : (name : List ℕ) → Pos → (new_name : List ℕ) → WorkSeen → WorkSeen → Status → Type 0
RenameEndsAs name position new_name old new status = RenamesFile name position new_name old new status ⊎ StopsAtFile name max_text old new status

-- ---- `selfrun N`

-- no file was asked for, and what is printed is what `selfrun_lines` says of so many libraries
pub record SelfrunEndsAs (libraries : ℕ) (old new : WorkSeen) (status : Status) : Type 0 where
  pub unasked : new.files ≡ old.files
  pub r : Reader
  pub rules : IsReader r
  pub rs : List Read
  pub read : AreReadAs (entries (selfrun_texts libraries)) rs
  pub ends : WorkEndsAs (selfrun_lines r rs libraries) statuses.Done (selfrun_uses r libraries) old new status
