-- How the command `serve` ends, and why.
use Rattle.std.specs.Prelude.{◌≡◌, ℕ, ◌<◌, ◌≤◌, ◌^◌, List, ◌∷◌, ◌++◌, length, Option, Some, None}
use Rattle.std.specs.Io.KnownBytes.{Appends}
use Rattle.ls_base.specs.Frames.{End, rest, fault}
use Rattle.lsp_messages.specs.declared.reply.Reply.{Reply}
use Rattle.ls_outside.specs.Calls.{CallsTake, LastTakes}
use Rattle.ls_outside.specs.Sources.{bytes_of}
use Rattle.scheme_model.specs.Session.{Ending}
use Rattle.reply_writing.specs.ReplyFrames.{frames_of}
use Rattle.command_output.specs.Prints.{SinkSeen, Prints, PrintsFront, PrintsPart}
use Rattle.session_serving.specs.CountedBytes.{CountsAll, CountsBegin}
use Rattle.session_serving.specs.QuietBytes.{AreQuiet}
use Rattle.command_output.specs.Reads.{FailsToRead, ReadsOn, ReadsToEnd, TakesBytes}
use Rattle.session_serving.specs.SessionOutput.{BeginOutput, IsOutputOf, Output, written}
use Rattle.session_serving.specs.SessionEnds.{said_exit}
use Rattle.command_output.specs.Streams.{Streams}
use Rattle.session_serving.specs.declared.serve.SessionEnd.{SessionEnd}
use Rattle.session_serving.specs.declared.serve.SessionEnd.TheVariants.{Exited, InputEnded, ReadFailed, WriteFailed, NoMemory, FrameFault, Endless}

-- how many bytes a session takes, at most
abbrev pub max_stream : ℕ
max_stream = 2 ^ 40

-- the frames end within a frame or at its end, and not in a fault
abbrev pub IsUnfinished : End → Type 0
IsUnfinished (rest kept) = Unit {0}
IsUnfinished (fault kind offset) = ⊥

-- the frames end in a fault
abbrev pub IsFaulty : End → Type 0
IsFaulty (rest kept) = ⊥
IsFaulty (fault kind offset) = Unit {0}

-- ---- what was written, by the outputs of what was taken

-- an output was written whole
pub record WritesWhole (IsOutput : Output → Type 0) (old new : SinkSeen) : Type 0 where
  pub output : Output
  pub is : IsOutput output
  pub prints : Prints old new (frames_of (written output))

-- the output was written of a session that `exit` ends so
pub record Exits (IsOutput : Output → Type 0) (exit : Ending) (old new : SinkSeen) : Type 0 where
  pub writes : WritesWhole IsOutput old new
  pub exits : writes.output.exit ≡ Some exit

-- the output was written of a session that nothing in it ends
pub record GoesOn (IsOutput : Output → Type 0) (old new : SinkSeen) : Type 0 where
  pub writes : WritesWhole IsOutput old new
  pub no_exit : writes.output.exit ≡ None
  pub unfinished : IsUnfinished writes.output.end

-- the output was written of a session whose frames end in a fault
pub record FramesFail (IsOutput : Output → Type 0) (old new : SinkSeen) : Type 0 where
  pub writes : WritesWhole IsOutput old new
  pub no_exit : writes.output.exit ≡ None
  pub faulty : IsFaulty writes.output.end

-- a write failed within messages that begin the output
pub record WritesFront (Begin : List Reply → Type 0) (old new : SinkSeen) : Type 0 where
  pub messages : List Reply
  pub begin : Begin messages
  pub prints : PrintsFront old new (frames_of messages)

-- a front was written of messages that begin the output
pub record WritesPart (Begin : List Reply → Type 0) (old new : SinkSeen) : Type 0 where
  pub messages : List Reply
  pub begin : Begin messages
  pub prints : PrintsPart old new (frames_of messages)

-- how a session ends that took so many bytes, by their outputs and the messages that begin these
abbrev pub SessionEndsAs : ℕ → (Output → Type 0) → (List Reply → Type 0) → SinkSeen → SinkSeen → SessionEnd → Type 0
SessionEndsAs taken IsOutput Begin old new (Exited exit) = (taken ≤ max_stream) × Exits IsOutput (said_exit exit) old new
SessionEndsAs taken IsOutput Begin old new InputEnded = (taken < max_stream) × GoesOn IsOutput old new
SessionEndsAs taken IsOutput Begin old new ReadFailed = (taken < max_stream) × GoesOn IsOutput old new
SessionEndsAs taken IsOutput Begin old new WriteFailed = (taken ≤ max_stream) × WritesFront Begin old new
SessionEndsAs taken IsOutput Begin old new NoMemory = (taken ≤ max_stream) × WritesPart Begin old new
SessionEndsAs taken IsOutput Begin old new FrameFault = (taken ≤ max_stream) × FramesFail IsOutput old new
SessionEndsAs taken IsOutput Begin old new Endless = (taken ≡ max_stream) × GoesOn IsOutput old new

-- ---- where the bytes come from

-- the bytes are those of the first of these pieces, and the last bytes are a front, not empty, of the next one
pub record AreBefore (pieces : List (List ℕ)) (bytes last : List ℕ) : Type 0 where
  pub before : List (List ℕ)
  pub unread : List ℕ
  pub after : List (List ℕ)
  pub split : pieces ≡ before ++ ((last ++ unread) ∷ after)
  pub whole : bytes ≡ bytes_of before
  pub some : 0 < length last

-- the same where the pieces are told
abbrev pub AreBeforeLast : Option (List (List ℕ)) → List ℕ → List ℕ → Type 0
AreBeforeLast None bytes last = Unit {0}
AreBeforeLast (Some pieces) bytes last = AreBefore pieces bytes last

-- the session goes on up to the last read, which took from the piece that holds the last byte taken, and what answers the reads
-- before it was written
pub record AnswersPiecesBefore (old new : Streams) (bytes : List ℕ) : Type 0 where
  pub before : List ℕ
  pub last : List ℕ
  pub split : bytes ≡ before ++ last
  pub reads : LastTakes old.source.reads new.source.reads before last
  pub pieces : AreBeforeLast old.source.left before last
  pub output : Output
  pub is : IsOutputOf before output
  pub no_exit : output.exit ≡ None
  pub unfinished : IsUnfinished output.end
  pub more : List ℕ
  pub printed : Appends old.sink.taken new.sink.taken (frames_of output.messages ++ more)
  pub writes : CallsTake old.sink.writes new.sink.writes (frames_of output.messages ++ more)

-- what became of the source of these bytes
abbrev pub SourceEndsAs : Streams → Streams → List ℕ → SessionEnd → Type 0
SourceEndsAs old new bytes (Exited exit) = ReadsOn old.source new.source bytes × AnswersPiecesBefore old new bytes
SourceEndsAs old new bytes InputEnded = ReadsToEnd old.source new.source bytes
SourceEndsAs old new bytes ReadFailed = FailsToRead old.source new.source bytes
SourceEndsAs old new bytes WriteFailed = ReadsOn old.source new.source bytes × AnswersPiecesBefore old new bytes
SourceEndsAs old new bytes NoMemory = ReadsOn old.source new.source bytes
SourceEndsAs old new bytes FrameFault = ReadsOn old.source new.source bytes × AnswersPiecesBefore old new bytes
SourceEndsAs old new bytes Endless = ReadsOn old.source new.source bytes

-- how `serve` ends: bytes were taken of the source, and the session over them ended so
pub record ServeEndsAs (old new : Streams) (end : SessionEnd) : Type 0 where
  pub bytes : List ℕ
  pub taken : TakesBytes old.source.left new.source.left bytes
  pub source : SourceEndsAs old new bytes end
  pub session : SessionEndsAs (length bytes) (IsOutputOf bytes) (BeginOutput bytes) old.sink new.sink end

-- ---- the macro uses that are counted

-- a session over these bytes that ends so counts from one number to another. Where a write failed, it counts the bodies that those
-- messages answer within which it failed; where memory runs out nothing is told
abbrev pub CountsAs : SinkSeen → SinkSeen → List ℕ → (before now : ℕ) → SessionEnd → Type 0
CountsAs old new bytes before now (Exited exit) = CountsAll bytes before now
CountsAs old new bytes before now InputEnded = CountsAll bytes before now
CountsAs old new bytes before now ReadFailed = CountsAll bytes before now
CountsAs old new bytes before now WriteFailed = WritesFront (CountsBegin bytes before now) old new
CountsAs old new bytes before now NoMemory = Unit {0}
CountsAs old new bytes before now FrameFault = CountsAll bytes before now
CountsAs old new bytes before now Endless = CountsAll bytes before now

-- `serve` ended so, and counts the macro uses that the bodies lead to; none, where no body tells a document event or asks for a rename
pub record Serves (old new : Streams) (before now : ℕ) (end : SessionEnd) : Type 0 where
  pub ends : ServeEndsAs old new end
  pub counted : CountsAs old.sink new.sink ends.bytes before now end
  pub uncounted : AreQuiet ends.bytes → now ≡ before
