-- What a session writes in answer to a stream of bytes (LSP 3.17, base protocol and lifecycle).
use Rattle.std.specs.Prelude.{◌≡◌, ◌⊎◌, ℕ, List, [], ◌∷◌, ◌++◌, map, Option, Some, None}
use Rattle.std.specs.FinMap.{empty}
use Rattle.ls_base.specs.Frames.{End, IsFrames, fault, fault_number, rest}
use Rattle.lsp_messages.specs.Messages.{message_of}
use Rattle.lsp_messages.specs.declared.reply.Reply.{Reply}
use Rattle.scheme_model.specs.Session.{Ending, Message, Run, State, begin, run_from}
use Rattle.session_replies.specs.FromWire.{offsets, said_by}
use Rattle.session_replies.specs.Asked.{Question, questions}
use Rattle.session_replies.specs.ToWire.{AreReplies}
use Rattle.reply_writing.specs.ReplyFrames.{fault_log}

-- what a body says
abbrev pub said : List ℕ → Message
said body = said_by (message_of body)

-- a session that goes on with these bodies, up to and with the first `exit`
abbrev pub session_from : State → List (List ℕ) → Run Question
session_from state bodies = run_from offsets questions (map said bodies) state

-- a session over these bodies, up to and with the first `exit`
abbrev pub session_over : List (List ℕ) → Run Question
session_over bodies = session_from (begin empty) bodies

-- what a session comes to: the messages that answer its bodies, `exit` where it comes, and how the frames end
pub record Output : Type 0 where
  pub messages : List Reply
  pub exit : Option Ending
  pub end : End

-- the last message, which nothing asks for: the log of a fault of frames that no `exit` precedes
abbrev pub farewell : Option Ending → End → List Reply
farewell (Some exit) end = []
farewell None (rest kept) = []
farewell None (fault kind offset) = fault_log (fault_number kind) offset ∷ []

-- all messages that are written
abbrev pub written : Output → List Reply
written output = output.messages ++ farewell output.exit output.end

-- the output of a stream of bytes
pub record IsOutputOf (bytes : List ℕ) (output : Output) : Type 0 where
  pub bodies : List (List ℕ)
  pub frames : IsFrames bytes bodies output.end
  pub answered : AreReplies (session_over bodies).replies output.messages
  pub exits : output.exit ≡ (session_over bodies).end

-- messages answer the first bodies of a stream
pub record AnswerFirst (bytes : List ℕ) (messages : List Reply) : Type 0 where
  pub bodies : List (List ℕ)
  pub later : List (List ℕ)
  pub end : End
  pub frames : IsFrames bytes (bodies ++ later) end
  pub answered : AreReplies (session_over bodies).replies messages

-- messages begin the output of a stream: they answer its first bodies, or are all of it
abbrev pub BeginOutput : List ℕ → List Reply → Type 0
BeginOutput bytes messages = AnswerFirst bytes messages ⊎ ((output : Output) × IsOutputOf bytes output × (messages ≡ written output))
