-- A step of a session asks for answers, and for what is news.
use Rattle.std.proofs.Common.{ℕ, Bool, true, false, List, [], ◌∷◌, ◌++◌, Option, None, Some, Result, Ok, Err}
use Rattle.std.specs.List.{AllByRecursion}
use Rattle.lsp_messages.specs.declared.message.Call.{Call}
use Rattle.lsp_messages.specs.declared.message.Call.TheVariants as calls
use Rattle.lsp_messages.specs.declared.message.Message.{Message}
use Rattle.lsp_messages.specs.declared.message.Message.TheVariants as messages
use Rattle.lsp_messages.specs.declared.message.Reject.{Reject}
use Rattle.lsp_messages.specs.declared.message.Reject.TheVariants as rejects
use Rattle.scheme_model.specs.Session as session
use Rattle.scheme_model.specs.Session.{Mode, Fresh, Running, Shut, State, dropped, evented_to, logged, noticed, notified, published, refused, requested, step}
use Rattle.scheme_model.specs.Texts.{Event, Refusal, Texts, after}
use Rattle.scheme_model.specs.Session.{leaves}
use Rattle.session_replies.specs.Asked.{News, Question, questions}
use Rattle.session_replies.specs.FromWire.{offsets, said_by, said_call}
use Rattle.session_replies.proofs.SomeAnswer.{AsksNews, AsksThat}

requested_asks : (mode : Mode) (state : State) (id : session.Id) (call : Call) → AllByRecursion AsksThat (requested mode questions state id (said_call call)).replies
requested_asks Fresh state id (calls.Initialize prepare encoding) = (tt, tt)
requested_asks Fresh state id calls.Shutdown = (tt, tt)
requested_asks Fresh state id (calls.Ask place query) = (tt, tt)
requested_asks Fresh state id (calls.Rename place new_name) = (tt, tt)
requested_asks Running state id (calls.Initialize prepare encoding) = (tt, tt)
requested_asks Running state id calls.Shutdown = (tt, tt)
requested_asks Running state id (calls.Ask place query) = (tt, tt)
requested_asks Running state id (calls.Rename place new_name) = (tt, tt)
requested_asks Shut state id call = (tt, tt)

refused_asks : (mode : Mode) (id : session.Id) (own : session.Reply Question) → AsksThat own → AsksThat (refused mode id own)
refused_asks Fresh id own asks = tt
refused_asks Running id own asks = asks
refused_asks Shut id own asks = tt

logged_asks : (uri : List ℕ) (refusal : Option Refusal) → AllByRecursion AsksThat (logged {A = Question} uri refusal)
logged_asks uri None = tt
logged_asks uri (Some refusal) = (tt, tt)

published_asks : (left : Bool) (question : Question) → AsksNews question → AllByRecursion AsksThat (published left question)
published_asks true question asks = tt
published_asks false question asks = (asks, tt)

both_ask : (a b : List (session.Reply Question)) → AllByRecursion AsksThat a → AllByRecursion AsksThat b → AllByRecursion AsksThat (a ++ b)
both_ask [] b first second = second
both_ask (r ∷ a) b first second = (first.0, both_ask a b first.1 second)

dropped_asks : (state : State) (note : session.Note) → AllByRecursion AsksThat (dropped {A = Question} state note).replies
dropped_asks state session.Exit = tt
dropped_asks state (session.Document event) = tt
dropped_asks state (session.BadParams method) = tt
dropped_asks state session.Other = tt

-- the log of an event, and what is news
told_asks : (state : State) (event : Event) (left : Texts × Option Refusal) → AllByRecursion AsksThat (evented_to questions state event left).replies
told_asks state event left =
    let uri = session.uri_of event in
    let lists = published (leaves event left.1) (News state.encoding state.texts left.0 uri) in
    both_ask (logged uri left.1) lists (logged_asks uri left.1) (published_asks (leaves event left.1) (News state.encoding state.texts left.0 uri) tt)

noticed_asks : (state : State) (note : session.Note) → AllByRecursion AsksThat (noticed offsets questions state note).replies
noticed_asks state session.Exit = tt
noticed_asks state (session.Document event) = told_asks state event (after offsets state.encoding state.texts event)
noticed_asks state (session.BadParams method) = (tt, tt)
noticed_asks state session.Other = tt

notified_asks : (mode : Mode) (state : State) (note : session.Note) → AllByRecursion AsksThat (notified mode offsets questions state note).replies
notified_asks Fresh state note = dropped_asks state note
notified_asks Running state note = noticed_asks state note
notified_asks Shut state note = dropped_asks state note

-- what a step asks at a body that is a message, or none
pub step_asks : (state : State) (read : Result Message Reject) → AllByRecursion AsksThat (step offsets questions state (said_by read)).replies
step_asks state (Ok (messages.Request id call)) = requested_asks state.mode state _ call
step_asks state (Ok (messages.Notice note)) = notified_asks state.mode state _
step_asks state (Ok messages.Response) = tt
step_asks state (Err rejects.Memory) = (tt, tt)
step_asks state (Err rejects.Parse) = (tt, tt)
step_asks state (Err (rejects.Invalid id)) = (tt, tt)
step_asks state (Err (rejects.Method id)) = (refused_asks state.mode _ _ tt, tt)
step_asks state (Err (rejects.Params id)) = (refused_asks state.mode _ _ tt, tt)
