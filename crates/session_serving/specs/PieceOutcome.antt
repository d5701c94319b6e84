-- What a server makes of a piece of its input, whose bodies it looks at ahead or not.
use Rattle.std.specs.Prelude.{◌≡◌, ◌⊎◌, ◌++◌, ℕ, List, Option, Some, None}
use Rattle.std.specs.List.{AllByRecursion}
use Rattle.ls_base.specs.Frames.{End, Fault, IsFrames, fault_number, rest, fault}
use Rattle.lsp_framing.specs.Deframed.{Deframed, After}
use Rattle.lsp_framing.specs.Feeds.{Feeds}
use Rattle.lsp_framing.specs.Taken.{contents}
use Rattle.lookahead.specs.Looked.{looked}
use Rattle.lookahead.specs.declared.looking.Looking.{Looking}
use Rattle.scheme_model.specs.Session.{Ending, State}
use Rattle.session_replies.specs.Counted.{AreCounted}
use Rattle.session_replies.specs.Stepped.{IsQuiet}
use Rattle.session_serving.specs.BodiesOutcome.{AnswersBodies, EndsSession, AnswersSome, CountsSome}
use Rattle.command_output.specs.Prints.{SinkSeen, PrintsFront, PrintsPart}
use Rattle.session_serving.specs.AheadOutput.{looked_from}
use Rattle.session_serving.specs.SessionEnds.{said_exit}
use Rattle.session_serving.specs.declared.server.Cut.{Cut}
use Rattle.session_serving.specs.declared.server.FaultAt.{FaultAt}
use Rattle.session_serving.specs.declared.server.PieceEnd.{PieceEnd}
use Rattle.session_serving.specs.declared.server.PieceEnd.TheVariants.{Answered, Exited, Faulty, WriteFailed, NoMemory}

-- what a server is: how the frames that it took end, and the state of its session
pub record Serving : Type 0 where
  pub frames : Deframed
  pub state : State

abbrev pub serving : Deframed → State → Serving
serving frames state = record { frames = frames; state = state }

-- the frames go on
abbrev pub IsOpen : Option End → Type 0
IsOpen end = (kept : List ℕ) × (end ≡ Some (rest kept))

-- the frames end in this fault
abbrev pub HasFault : FaultAt → Option End → Type 0
HasFault at end = (kind : Fault) × (end ≡ Some (fault kind at.offset)) × (at.number ≡ fault_number kind)

-- the frames end so behind the bodies of a piece
abbrev pub EndsCut : Option FaultAt → Option End → Type 0
EndsCut None end = IsOpen end
EndsCut (Some at) end = HasFault at end

-- the bodies that a piece completes, and how the frames then end
pub record Cuts (old : Deframed) (piece : List ℕ) (cut : Cut) (new : Deframed) : Type 0 where
  pub feeds : Feeds old piece (contents cut.bodies) new
  pub end : EndsCut cut.fault new.end

-- the piece completes these bodies, which are all answered, and then its frames end so
pub record TakesPiece (looking : Looking) (old new : Serving) (piece : List ℕ) (Ends : Option End → Type 0) (seen now : SinkSeen) : Type 0 where
  pub given : List (List ℕ)
  pub feeds : Feeds old.frames piece given new.frames
  pub end : Ends new.frames.end
  pub answers : AnswersBodies old.state (looked looking given) new.state seen now

-- the piece completes these bodies, of which one ends the session
pub record EndsInPiece (looking : Looking) (old new : Serving) (piece : List ℕ) (exit : Ending) (seen now : SinkSeen) : Type 0 where
  pub given : List (List ℕ)
  pub feeds : Feeds old.frames piece given new.frames
  pub ends : EndsSession old.state (looked looking given) exit seen now

-- the piece completes these bodies, of which some are answered
pub record AnswersInPiece (looking : Looking) (old new : Serving) (piece : List ℕ) (IsPrinted : List ℕ → Type 0) : Type 0 where
  pub given : List (List ℕ)
  pub feeds : Feeds old.frames piece given new.frames
  pub answers : AnswersSome old.state (looked looking given) IsPrinted

-- how taking a piece ends
abbrev pub PieceEndsAs : (looking : Looking) → Serving → Serving → List ℕ → SinkSeen → SinkSeen → PieceEnd → Type 0
PieceEndsAs looking old new piece seen now Answered = TakesPiece looking old new piece IsOpen seen now
PieceEndsAs looking old new piece seen now (Faulty at) = TakesPiece looking old new piece (HasFault at) seen now
PieceEndsAs looking old new piece seen now (Exited exit) = EndsInPiece looking old new piece (said_exit exit) seen now
PieceEndsAs looking old new piece seen now WriteFailed = AnswersInPiece looking old new piece (PrintsFront seen now)
PieceEndsAs looking old new piece seen now NoMemory = AnswersInPiece looking old new piece (PrintsPart seen now) ⊎ (now ≡ seen)

-- each body that the piece completes is quiet, so that no macro use is counted; those before were complete in the bytes that were taken
pub record IsQuietPiece (taken : Deframed) (piece : List ℕ) : Type 0 where
  pub past : List ℕ
  pub before : List (List ℕ)
  pub given : List (List ℕ)
  pub end : End
  pub after : After past before taken
  pub frames : IsFrames (past ++ piece) (before ++ given) end
  pub quiet : AllByRecursion IsQuiet given

-- ---- the macro uses that are counted over a piece

-- those of all bodies that the piece completes
pub record CountsPiece (looking : Looking) (old new : Serving) (piece : List ℕ) (before now : ℕ) : Type 0 where
  pub given : List (List ℕ)
  pub feeds : Feeds old.frames piece given new.frames
  pub counted : AreCounted (looked_from old.state (looked looking given)).replies before now

-- those of the first of them, which are answered
pub record CountsInPiece (looking : Looking) (old new : Serving) (piece : List ℕ) (IsPrinted : List ℕ → Type 0) (before now : ℕ) : Type 0 where
  pub given : List (List ℕ)
  pub feeds : Feeds old.frames piece given new.frames
  pub counts : CountsSome old.state (looked looking given) IsPrinted before now

-- taking a piece that ends so counts from one number to another. Where memory runs out nothing is told
abbrev pub PieceCountsAs : (looking : Looking) → Serving → Serving → List ℕ → SinkSeen → SinkSeen → (before now : ℕ) → PieceEnd → Type 0
PieceCountsAs looking old new piece seen sink before now Answered = CountsPiece looking old new piece before now
PieceCountsAs looking old new piece seen sink before now (Faulty at) = CountsPiece looking old new piece before now
PieceCountsAs looking old new piece seen sink before now (Exited exit) = CountsPiece looking old new piece before now
PieceCountsAs looking old new piece seen sink before now WriteFailed = CountsInPiece looking old new piece (PrintsFront seen sink) before now
PieceCountsAs looking old new piece seen sink before now NoMemory = Unit {0}
