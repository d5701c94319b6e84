-- What answering bodies one after another leaves, in the middle of a session. Each body stands beside the id by which it is cancelled.
use Rattle.std.specs.Prelude.{◌≡◌, ℕ, zero, suc, List, ◌++◌, Option, Some, None}
use Rattle.lsp_messages.specs.declared.reply.Reply.{Reply}
use Rattle.lookahead.specs.Looked.{Looked}
use Rattle.scheme_model.specs.Session.{Ending, State}
use Rattle.session_replies.specs.Counted.{AreCounted}
use Rattle.session_replies.specs.Stepped.{IsQuiet}
use Rattle.session_replies.specs.ToWire.{AreReplies}
use Rattle.command_output.specs.Prints.{SinkSeen, Prints, PrintsFront, PrintsPart}
use Rattle.reply_writing.specs.ReplyFrames.{frames_of}
use Rattle.session_serving.specs.AheadOutput.{looked_from}
use Rattle.session_serving.specs.SessionEnds.{said_exit}
use Rattle.session_serving.specs.declared.answering.Exit.TheVariants.{Clean, Early}
use Rattle.session_serving.specs.declared.answering.BodiesEnd.{BodiesEnd}
use Rattle.session_serving.specs.declared.answering.BodiesEnd.TheVariants.{Answered, Exited, WriteFailed, NoMemory}

-- messages answer these bodies, which come after a state, and the session then ends so
pub record AreAnswered (state : State) (bodies : List Looked) (end : Option Ending) : Type 0 where
  pub messages : List Reply
  pub answered : AreReplies (looked_from state bodies).replies messages
  pub ends : (looked_from state bodies).end ≡ end

-- all bodies are answered, and the session is in the state after them
pub record AnswersBodies (state : State) (bodies : List Looked) (next : State) (old new : SinkSeen) : Type 0 where
  pub session : AreAnswered state bodies None
  pub prints : Prints old new (frames_of session.messages)
  pub now : next ≡ (looked_from state bodies).state

-- the bodies end the session, and are answered up to that one
pub record EndsSession (state : State) (bodies : List Looked) (exit : Ending) (old new : SinkSeen) : Type 0 where
  pub session : AreAnswered state bodies (Some exit)
  pub prints : Prints old new (frames_of session.messages)

-- some first bodies are answered, of which a front was printed
pub record AnswersSome (state : State) (bodies : List Looked) (IsPrinted : List ℕ → Type 0) : Type 0 where
  pub first : List Looked
  pub later : List Looked
  pub split : bodies ≡ first ++ later
  pub messages : List Reply
  pub answered : AreReplies (looked_from state first).replies messages
  pub prints : IsPrinted (frames_of messages)

-- how a body that was answered leaves the session, by the status with which it ends the process
abbrev pub body_end_of : Option ℕ → BodiesEnd
body_end_of None = Answered
body_end_of (Some zero) = Exited Clean
body_end_of (Some (suc n)) = Exited Early

-- how answering bodies ends, from a state of the session on
abbrev pub BodiesEndAs : State → List Looked → State → SinkSeen → SinkSeen → BodiesEnd → Type 0
BodiesEndAs state bodies next old new Answered = AnswersBodies state bodies next old new
BodiesEndAs state bodies next old new (Exited exit) = EndsSession state bodies (said_exit exit) old new
BodiesEndAs state bodies next old new WriteFailed = AnswersSome state bodies (PrintsFront old new)
BodiesEndAs state bodies next old new NoMemory = AnswersSome state bodies (PrintsPart old new)

-- ---- the macro uses that are counted over bodies

-- a body tells no document event and asks for no rename
abbrev pub IsQuietBody : Looked → Type 0
IsQuietBody body = IsQuiet body.0

-- those of the first bodies, which are answered
pub record CountsSome (state : State) (bodies : List Looked) (IsPrinted : List ℕ → Type 0) (before now : ℕ) : Type 0 where
  pub some : AnswersSome state bodies IsPrinted
  pub counted : AreCounted (looked_from state some.first).replies before now

-- answering bodies that ends so counts from one number to another. Where memory runs out nothing is told
abbrev pub BodiesCountAs : State → List Looked → SinkSeen → SinkSeen → (before now : ℕ) → BodiesEnd → Type 0
BodiesCountAs state bodies old new before now Answered = AreCounted (looked_from state bodies).replies before now
BodiesCountAs state bodies old new before now (Exited exit) = AreCounted (looked_from state bodies).replies before now
BodiesCountAs state bodies old new before now WriteFailed = CountsSome state bodies (PrintsFront old new) before now
BodiesCountAs state bodies old new before now NoMemory = Unit {0}
