-- How writing bytes ends that are made on the way.
use Rattle.std.specs.Prelude.{ℕ, List, Ok, Err}
use Rattle.std.specs.declared.result.Result.{Result}
use Rattle.command_output.specs.Prints.{SinkSeen, Prints, PrintsFront, PrintsPart}
use Rattle.reply_writing.specs.declared.replies.WriteStop.{WriteStop}
use Rattle.reply_writing.specs.declared.replies.WriteStop.TheVariants as stop

-- how writing bytes ends that are made on the way
abbrev pub WritingEndsAs : SinkSeen → SinkSeen → List ℕ → Result (Unit {0}) WriteStop → Type 0
WritingEndsAs old new output (Ok done) = Prints old new output
WritingEndsAs old new output (Err stop.Failed) = PrintsFront old new output
WritingEndsAs old new output (Err stop.Memory) = PrintsPart old new output
