-- The statuses of a run, and which one a fetch has that stops.
use Rattle.std.specs.Prelude.{ℕ}
use Rattle.file_fetching.specs.declared.fetching.FetchStop.{FetchStop}
use Rattle.file_fetching.specs.declared.fetching.FetchStop.TheVariants as fetch
use Rattle.command_output.specs.declared.status.Status.{Status}
use Rattle.command_output.specs.declared.status.Status.TheVariants.{Done, Refused, BadWords, SourceFault, FilesFault, NoMemory, SinkFault, FrameFault, TooLong, Endless}

-- the number of a status
abbrev pub code_of : Status → ℕ
code_of Done = 0
code_of Refused = 1
code_of BadWords = 2
code_of SourceFault = 3
code_of FilesFault = 3
code_of NoMemory = 4
code_of SinkFault = 5
code_of FrameFault = 6
code_of TooLong = 7
code_of Endless = 8

-- the status where a file wasn't fetched
abbrev pub fetch_status : FetchStop → Status
fetch_status fetch.Long = TooLong
fetch_status fetch.Failed = FilesFault
fetch_status fetch.Memory = NoMemory
