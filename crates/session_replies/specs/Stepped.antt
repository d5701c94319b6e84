-- One step of a session, from the bytes of a body to the messages that answer it.
use Rattle.std.specs.Prelude.{◌≡◌, ℕ, List, None, Bool, true, false}
use Rattle.std.specs.Option.{option_map}
use Rattle.lsp_messages.specs.Messages.{message_of}
use Rattle.scheme_model.specs.Session as session
use Rattle.scheme_model.specs.Session.{Reply, State, Stepped, step}
use Rattle.session_replies.specs.declared.out.Out.{Out}
use Rattle.session_replies.specs.FromWire.{offsets, said_by}
use Rattle.session_replies.specs.Asked.{Question, questions}
use Rattle.session_replies.specs.ToWire.{AreReplies}
use Rattle.session_replies.specs.States.{exit_code}

-- the state after a step, the messages and the end are those of the step
pub record IsOutcome (stepped : Stepped Question) (out : Out) (next : State) : Type 0 where
  pub state : next ≡ stepped.state
  pub replies : AreReplies stepped.replies out.replies
  pub end : out.end ≡ option_map exit_code stepped.end

-- the body leads from one state to the next, with these messages and this end
abbrev pub IsStep : State → List ℕ → Out → State → Type 0
IsStep state body out next = IsOutcome (step offsets questions state (said_by (message_of body))) out next

-- a notification of a document event
abbrev pub is_event : session.Note → Bool
is_event session.Exit = false
is_event (session.Document event) = true
is_event (session.BadParams method) = false
is_event session.Other = false

-- a request for a rename
abbrev pub is_rename : session.Call → Bool
is_rename (session.Initialize prepare encoding) = false
is_rename session.Shutdown = false
is_rename (session.Ask uri position query) = false
is_rename (session.Rename uri position new_name) = true

-- a document event or a rename, after which alone macros are expanded
abbrev pub expands : session.Message → Bool
expands session.Unreadable = false
expands (session.Invalid id) = false
expands (session.UnknownMethod id) = false
expands (session.BadRequest id) = false
expands (session.Request id call) = is_rename call
expands (session.Notice note) = is_event note
expands session.Response = false

-- a body tells no document event and asks for no rename
abbrev pub IsQuiet : List ℕ → Type 0
IsQuiet body = expands (said_by (message_of body)) ≡ false

-- nothing ends, and the messages are these replies
abbrev pub Says : Out → List (Reply Question) → Type 0
Says out replies = AreReplies replies out.replies × (out.end ≡ None)
