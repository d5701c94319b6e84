-- What the server tells of a document event (LSP 3.17, text synchronisation).
use Rattle.std.specs.Prelude.{◌≡◌, ℕ, List}
use Rattle.ls_base.specs.declared.encoding.Encoding.{Encoding}
use Rattle.document_store.specs.Texts as store
use Rattle.document_store.specs.declared.faults.StoreFault.{StoreFault}
use Rattle.document_store.specs.declared.faults.StoreFault.TheVariants as faults
use Rattle.lsp_messages.specs.declared.reply.Reply.{Reply}
use Rattle.lsp_messages.specs.declared.reply.Reply.TheVariants as replies
use Rattle.scheme_model.specs.Session.{evented}
use Rattle.scheme_model.specs.Wording.{refusal_text}
use Rattle.scheme_model.specs.Texts.{Texts, Refusal, NotOpen, BadRange, TooLong, TooMany}
use Rattle.session_replies.specs.declared.mode.Mode.{Mode}
use Rattle.session_replies.specs.declared.out.Out.{Out}
use Rattle.session_replies.specs.Agreement.{said_event}
use Rattle.session_replies.specs.Asked.{questions}
use Rattle.session_replies.specs.FromWire.{offsets}
use Rattle.session_replies.specs.States.{state_of}
use Rattle.session_replies.specs.Stepped.{IsOutcome}

-- the event leads from these texts to others, with these messages, whatever the mode
abbrev pub IsEvented : Encoding → Texts → store.Event → Out → Texts → Type 0
IsEvented encoding old event out new =
    (mode : Mode) → IsOutcome (evented offsets questions (state_of mode encoding old) (said_event event)) out (state_of mode encoding new)

-- a refusal is logged
abbrev pub IsLogOf : Refusal → List ℕ → Reply → Type 0
IsLogOf refusal uri reply = reply ≡ replies.Log (refusal_text refusal uri)

-- a fault other than want of memory is logged
abbrev pub LogsFault : StoreFault → List ℕ → Reply → Type 0
LogsFault faults.Memory uri reply = ⊥
LogsFault faults.NotOpen uri reply = IsLogOf NotOpen uri reply
LogsFault faults.BadRange uri reply = IsLogOf BadRange uri reply
LogsFault faults.TooLong uri reply = IsLogOf TooLong uri reply
LogsFault faults.TooMany uri reply = IsLogOf TooMany uri reply
