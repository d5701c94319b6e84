-- What was read of a source that gives a text.
use Rattle.std.specs.Prelude.{ℕ, ◌+◌, ◌<◌, ◌≤◌, List, length, Ok, Err}
use Rattle.std.specs.declared.result.Result.{Result}
use Rattle.std.specs.declared.vec.Vec.{Vec}
use Rattle.std.specs.declared.alloc.Global.{Global}
use Rattle.ls_base.specs.Limits.{max_text}
use Rattle.command_output.specs.Reads.{SourceSeen, TakesBytes, ReadsOn, ReadsToEnd, FailsToRead}
use Rattle.text_arrows.specs.declared.reading.ReadStop.{ReadStop}
use Rattle.text_arrows.specs.declared.reading.ReadStop.TheVariants as stop

-- ---- a text that is read whole

-- how many bytes of a text are read at once, at most
abbrev pub text_buffer : ℕ
text_buffer = 4096

-- the whole text was read, and it is within the limit
pub record ReadsText (old new : SourceSeen) (text : List ℕ) : Type 0 where
  pub whole : ReadsToEnd old new text
  pub within_limit : length text ≤ max_text

-- more than the limit was there, and reading stopped at the read that passed it
pub record PassesLimit (old new : SourceSeen) : Type 0 where
  pub bytes : List ℕ
  pub front : TakesBytes old.left new.left bytes
  pub over : max_text < length bytes
  pub stops : length bytes ≤ max_text + text_buffer
  pub on : ReadsOn old new bytes

-- a read failed after a front of at most the limit
pub record FailsInText (old new : SourceSeen) : Type 0 where
  pub bytes : List ℕ
  pub front : TakesBytes old.left new.left bytes
  pub within_limit : length bytes ≤ max_text
  pub fails : FailsToRead old new bytes

-- a front was read, and no read failed
pub record ReadsFront (old new : SourceSeen) : Type 0 where
  pub bytes : List ℕ
  pub front : TakesBytes old.left new.left bytes
  pub on : ReadsOn old new bytes

-- how reading a text ends
abbrev pub ReadingEndsAs : SourceSeen → SourceSeen → Result (Vec ℕ Global) ReadStop → Type 0
ReadingEndsAs old new (Ok text) = ReadsText old new text.items
ReadingEndsAs old new (Err stop.Long) = PassesLimit old new
ReadingEndsAs old new (Err stop.Failed) = FailsInText old new
ReadingEndsAs old new (Err stop.Memory) = ReadsFront old new
