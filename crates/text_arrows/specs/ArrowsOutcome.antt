-- How the command `arrows` ends, and why.
use Rattle.std.specs.Prelude.{◌≡◌, ℕ, List}
use Rattle.text_arrows.specs.TextReading.{FailsInText, PassesLimit, ReadsFront, ReadsText}
use Rattle.text_arrows.specs.CountedText.{CountsAlone}
use Rattle.command_output.specs.Prints.{Prints, PrintsFront, SinkSeen}
use Rattle.text_arrows.specs.Printed.{AreLines, IsAnswer, IsRefusal}
use Rattle.command_output.specs.Streams.{Streams}
use Rattle.text_arrows.specs.declared.arrows.ArrowsEnd.{ArrowsEnd}
use Rattle.text_arrows.specs.declared.arrows.ArrowsEnd.TheVariants as arrows
use Rattle.text_arrows.specs.declared.arrows.TextEnd.{TextEnd}
use Rattle.text_arrows.specs.declared.arrows.TextEnd.TheVariants.{Printed, Refused, WriteFailed, NoMemory}

-- such an output was printed
pub record PrintsSuch (IsOutput : List ℕ → Type 0) (old new : SinkSeen) : Type 0 where
  pub output : List ℕ
  pub is : IsOutput output
  pub prints : Prints old new output

-- a write failed, and a front of such an output was printed
pub record PrintsFrontOfSuch (IsOutput : List ℕ → Type 0) (old new : SinkSeen) : Type 0 where
  pub output : List ℕ
  pub is : IsOutput output
  pub prints : PrintsFront old new output

-- how the answer to a text ends
abbrev pub TextEndsAs : TextEnd → List ℕ → SinkSeen → SinkSeen → Type 0
TextEndsAs Printed text old new = PrintsSuch (AreLines text) old new
TextEndsAs Refused text old new = PrintsSuch (IsRefusal text) old new
TextEndsAs WriteFailed text old new = PrintsFrontOfSuch (IsAnswer text) old new
TextEndsAs NoMemory text old new = new ≡ old

-- what an answer to a text counts that ends so. Where memory runs out nothing is told
abbrev pub CountsText : TextEnd → (text : List ℕ) → (before now : ℕ) → Type 0
CountsText Printed text before now = CountsAlone text before now
CountsText Refused text before now = CountsAlone text before now
CountsText WriteFailed text before now = CountsAlone text before now
CountsText NoMemory text before now = Unit {0}

-- the whole text was read, and the answer to it ended so
pub record AnswersText (end : TextEnd) (old new : Streams) (before now : ℕ) : Type 0 where
  pub text : List ℕ
  pub reads : ReadsText old.source new.source text
  pub ends : TextEndsAs end text old.sink new.sink
  pub counted : CountsText end text before now

-- no text was read whole, so none was opened
abbrev pub OpensNone : ArrowsEnd → Type 0
OpensNone (arrows.Answered end) = ⊥
OpensNone arrows.TooLong = Unit {0}
OpensNone arrows.ReadFailed = Unit {0}
OpensNone arrows.NoMemory = Unit {0}

-- how the command `arrows` ends, and what it counts where it opens a text
abbrev pub ArrowsEndsAs : Streams → Streams → (before now : ℕ) → ArrowsEnd → Type 0
ArrowsEndsAs old new before now (arrows.Answered end) = AnswersText end old new before now
ArrowsEndsAs old new before now arrows.TooLong = PassesLimit old.source new.source × (new.sink ≡ old.sink)
ArrowsEndsAs old new before now arrows.ReadFailed = FailsInText old.source new.source × (new.sink ≡ old.sink)
ArrowsEndsAs old new before now arrows.NoMemory = ReadsFront old.source new.source × (new.sink ≡ old.sink)
