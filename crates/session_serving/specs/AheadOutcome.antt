-- How a session ends whose input comes in pieces, where the bodies of a piece are looked at ahead or not.
use Rattle.std.specs.Prelude.{◌≡◌, ◌⊎◌, ℕ, ◌<◌, List, [], ◌∷◌, ◌++◌, length, Option, Some, None}
use Rattle.std.specs.Io.KnownBytes.{Appends}
use Rattle.std.specs.List.{AllByRecursion}
use Rattle.ls_base.specs.Frames.{End}
use Rattle.lsp_messages.specs.declared.reply.Reply.{Reply}
use Rattle.ls_outside.specs.Calls.{CallsTake}
use Rattle.ls_outside.specs.Counts.{Fails}
use Rattle.ls_outside.specs.Sources.{bytes_of, left_over}
use Rattle.lookahead.specs.Completed.{Complete}
use Rattle.lookahead.specs.declared.looking.Looking.{Looking}
use Rattle.lookahead.specs.declared.looking.Looking.TheVariants.{Ahead}
use Rattle.scheme_model.specs.Session.{begin}
use Rattle.session_replies.specs.Counted.{AreCounted}
use Rattle.std.specs.FinMap.{empty}
use Rattle.session_serving.specs.AheadOutput.{AnswerFirstBy, BeginBy, IsOutputBy, looked_from, looked_over}
use Rattle.command_output.specs.Prints.{SinkSeen}
use Rattle.session_serving.specs.QuietBytes.{AreQuiet}
use Rattle.command_output.specs.Reads.{SourceSeen}
use Rattle.reply_writing.specs.ReplyFrames.{frames_of}
use Rattle.session_serving.specs.ServeOutcome.{IsUnfinished, SessionEndsAs, WritesFront, max_stream}
use Rattle.session_serving.specs.SessionOutput.{Output, written}
use Rattle.command_output.specs.Streams.{Streams}
use Rattle.session_serving.specs.declared.serve.SessionEnd.{SessionEnd}
use Rattle.session_serving.specs.declared.serve.SessionEnd.TheVariants.{Exited, InputEnded, ReadFailed, WriteFailed, NoMemory, FrameFault, Endless}

-- ---- the pieces that reads take

-- the last of these pieces is a part of one that was left, where a session may take no more
pub record TakesPart (old new pieces : List (List ℕ)) : Type 0 where
  pub before : List (List ℕ)
  pub last : List ℕ
  pub unread : List ℕ
  pub after : List (List ℕ)
  pub split : pieces ≡ before ++ last ∷ []
  pub was : old ≡ before ++ (last ++ unread) ∷ after
  pub is : new ≡ left_over unread after
  pub full : length (bytes_of pieces) ≡ max_stream

-- where a source tells its pieces, these are the first of them, and the rest is left
abbrev pub TakesPieces : Option (List (List ℕ)) → Option (List (List ℕ)) → (pieces : List (List ℕ)) → Type 0
TakesPieces None new pieces = Unit {0}
TakesPieces (Some old) None pieces = ⊥
TakesPieces (Some old) (Some new) pieces = (old ≡ pieces ++ new) ⊎ TakesPart old new pieces

-- where a source tells its pieces, none is left
abbrev pub IsOver : Option (List (List ℕ)) → Option (List (List ℕ)) → Type 0
IsOver None new = Unit {0}
IsOver (Some old) None = ⊥
IsOver (Some old) (Some new) = new ≡ []

-- some bytes
abbrev pub IsNonempty : List ℕ → Type 0
IsNonempty piece = 0 < length piece

-- the reads took these pieces, and none failed
pub record ReadsPieces (old new : SourceSeen) (pieces : List (List ℕ)) : Type 0 where
  pub no_fault : new.faults ≡ old.faults
  pub reads : new.reads ≡ old.reads ++ pieces
  pub some : AllByRecursion IsNonempty pieces

-- they took these, and then one found the end
pub record ReadsAllPieces (old new : SourceSeen) (pieces : List (List ℕ)) : Type 0 where
  pub over : IsOver old.left new.left
  pub no_fault : new.faults ≡ old.faults
  pub reads : new.reads ≡ old.reads ++ (pieces ++ [] ∷ [])
  pub some : AllByRecursion IsNonempty pieces

-- they took these, and then one failed
pub record FailsBehind (old new : SourceSeen) (pieces : List (List ℕ)) : Type 0 where
  pub failed : Fails old.faults new.faults
  pub reads : new.reads ≡ old.reads ++ (pieces ++ [] ∷ [])
  pub some : AllByRecursion IsNonempty pieces

-- the session goes on up to the last piece, and what answers those before it was written
pub record AnswersBeforeLast (looking : Looking) (old new : SinkSeen) (pieces : List (List ℕ)) : Type 0 where
  pub before : List (List ℕ)
  pub last : List ℕ
  pub split : pieces ≡ before ++ last ∷ []
  pub output : Output
  pub is : IsOutputBy looking before output
  pub no_exit : output.exit ≡ None
  pub unfinished : IsUnfinished output.end
  pub more : List ℕ
  pub printed : Appends old.taken new.taken (frames_of output.messages ++ more)
  pub writes : CallsTake old.writes new.writes (frames_of output.messages ++ more)

-- what became of the source of these pieces
abbrev pub PiecesEndAs : (looking : Looking) → Streams → Streams → (pieces : List (List ℕ)) → SessionEnd → Type 0
PiecesEndAs looking old new pieces (Exited exit) = ReadsPieces old.source new.source pieces × AnswersBeforeLast looking old.sink new.sink pieces
PiecesEndAs looking old new pieces InputEnded = ReadsAllPieces old.source new.source pieces
PiecesEndAs looking old new pieces ReadFailed = FailsBehind old.source new.source pieces
PiecesEndAs looking old new pieces WriteFailed = ReadsPieces old.source new.source pieces × AnswersBeforeLast looking old.sink new.sink pieces
PiecesEndAs looking old new pieces NoMemory = ReadsPieces old.source new.source pieces
PiecesEndAs looking old new pieces FrameFault = ReadsPieces old.source new.source pieces × AnswersBeforeLast looking old.sink new.sink pieces
PiecesEndAs looking old new pieces Endless = ReadsPieces old.source new.source pieces

-- how a session ends: pieces were taken of the source, and the session over them ended so
pub record ServeEndsBy (looking : Looking) (old new : Streams) (end : SessionEnd) : Type 0 where
  pub pieces : List (List ℕ)
  pub taken : TakesPieces old.source.left new.source.left pieces
  pub source : PiecesEndAs looking old new pieces end
  pub session : SessionEndsAs (length (bytes_of pieces)) (IsOutputBy looking pieces) (BeginBy looking pieces) old.sink new.sink end

-- ---- the macro uses that are counted

-- those of all bodies, up to and with the first `exit`
pub record CountsAllBy (looking : Looking) (pieces : List (List ℕ)) (before now : ℕ) : Type 0 where
  pub given : List (List (List ℕ))
  pub end : End
  pub complete : Complete pieces given end
  pub counted : AreCounted (looked_over looking given).replies before now

-- those of the first bodies, which messages answer
pub record CountsFirstBy (looking : Looking) (pieces : List (List ℕ)) (before now : ℕ) (messages : List Reply) : Type 0 where
  pub answers : AnswerFirstBy looking pieces messages
  pub counted : AreCounted (looked_from (begin empty) answers.first).replies before now

-- those of the bodies that messages answer which begin the output
abbrev pub CountsBeginBy : (looking : Looking) → (pieces : List (List ℕ)) → (before now : ℕ) → List Reply → Type 0
CountsBeginBy looking pieces before now messages =
    CountsFirstBy looking pieces before now messages ⊎ ((output : Output) × IsOutputBy looking pieces output × (messages ≡ written output) × CountsAllBy looking pieces before now)

-- a session over these pieces that ends so counts from one number to another. Where a write failed, it counts the bodies that those
-- messages answer within which it failed; where memory runs out nothing is told
abbrev pub CountsBy : (looking : Looking) → SinkSeen → SinkSeen → (pieces : List (List ℕ)) → (before now : ℕ) → SessionEnd → Type 0
CountsBy looking old new pieces before now (Exited exit) = CountsAllBy looking pieces before now
CountsBy looking old new pieces before now InputEnded = CountsAllBy looking pieces before now
CountsBy looking old new pieces before now ReadFailed = CountsAllBy looking pieces before now
CountsBy looking old new pieces before now WriteFailed = WritesFront (CountsBeginBy looking pieces before now) old new
CountsBy looking old new pieces before now NoMemory = Unit {0}
CountsBy looking old new pieces before now FrameFault = CountsAllBy looking pieces before now
CountsBy looking old new pieces before now Endless = CountsAllBy looking pieces before now

-- a session ended so, and counts the macro uses that the bodies lead to; none, where no body tells a document event or asks for a rename
pub record ServesBy (looking : Looking) (old new : Streams) (before now : ℕ) (end : SessionEnd) : Type 0 where
  pub ends : ServeEndsBy looking old new end
  pub counted : CountsBy looking old.sink new.sink ends.pieces before now end
  pub uncounted : AreQuiet (bytes_of ends.pieces) → now ≡ before

-- the same of `serve --ahead`
abbrev pub ServesAhead : (old new : Streams) → (before now : ℕ) → SessionEnd → Type 0
ServesAhead = ServesBy Ahead
