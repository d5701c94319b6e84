-- What was printed to a sink.
use Rattle.std.specs.Prelude.{◌≡◌, ℕ, ◌<◌, ◌≤◌, List, length, take, Ok, Err}
use Rattle.std.specs.declared.option.Option.{Option}
use Rattle.std.specs.declared.result.Result.{Result}
use Rattle.std.specs.Io.KnownBytes.{Appends}
use Rattle.ls_outside.specs.Calls.{AllTake, LastTakesNone}
use Rattle.ls_outside.specs.Counts.{Fails}
use Rattle.command_output.specs.declared.printing.SinkFailed.{SinkFailed}

-- what a sink shows at a moment: the bytes that it took, where it tells them, how often a write has failed, and what
-- each write so far took
pub record SinkSeen : Type 0 where
  pub taken : Option (List ℕ)
  pub faults : ℕ
  pub writes : List (List ℕ)

abbrev pub sink_seen : Option (List ℕ) → ℕ → List (List ℕ) → SinkSeen
sink_seen taken faults writes = record { taken = taken; faults = faults; writes = writes }

-- these bytes are what the writes took, and no write failed
pub record Prints (old new : SinkSeen) (output : List ℕ) : Type 0 where
  pub printed : Appends old.taken new.taken output
  pub no_fault : new.faults ≡ old.faults
  pub calls : AllTake old.writes new.writes output

-- a front of these bytes was printed, but not all: then a write failed, and none followed it
pub record PrintsFront (old new : SinkSeen) (output : List ℕ) : Type 0 where
  pub count : ℕ
  pub part : count < length output
  pub printed : Appends old.taken new.taken (take count output)
  pub failed : Fails old.faults new.faults
  pub calls : LastTakesNone old.writes new.writes (take count output)

-- a front of these bytes was printed, perhaps all, and no write failed
pub record PrintsPart (old new : SinkSeen) (output : List ℕ) : Type 0 where
  pub count : ℕ
  pub part : count ≤ length output
  pub printed : Appends old.taken new.taken (take count output)
  pub no_fault : new.faults ≡ old.faults
  pub calls : AllTake old.writes new.writes (take count output)

-- how printing bytes ends
abbrev pub PrintingEndsAs : SinkSeen → SinkSeen → List ℕ → Result (Unit {0}) SinkFailed → Type 0
PrintingEndsAs old new output (Ok done) = Prints old new output
PrintingEndsAs old new output (Err fault) = PrintsFront old new output
