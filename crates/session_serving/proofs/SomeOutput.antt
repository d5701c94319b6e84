-- Each stream has an output.
use Rattle.std.proofs.Common.{ℕ, List, [], ◌∷◌, ◌++◌, refl, sym, subst, Option, None, Some}
use Rattle.std.specs.FinMap.{empty}
use Rattle.std.specs.List.{AllByRecursion}
use Rattle.lsp_framing.proofs.EveryReading.{every_reading}
use Rattle.lsp_messages.specs.Messages.{message_of}
use Rattle.lsp_messages.specs.declared.message.Id.{Id}
use Rattle.lookahead.specs.Ahead.{cancelled_step}
use Rattle.lookahead.specs.Looked.{Looked, looked}
use Rattle.lookahead.specs.declared.looking.Looking.{Looking}
use Rattle.lookahead.specs.declared.looking.Looking.TheVariants.{OneByOne}
use Rattle.lookahead.proofs.OneCompletion.{some_completion}
use Rattle.scheme_model.specs.Session as session
use Rattle.scheme_model.specs.Session.{Ending, Mode, Run, State, Stepped, begin, followed, step}
use Rattle.session_replies.specs.Asked.{Question, questions}
use Rattle.session_replies.specs.FromWire.{offsets, said_id}
use Rattle.session_replies.proofs.SomeAnswer.{AsksThat, some_replies}
use Rattle.session_replies.proofs.StepAsks.{step_asks}
use Rattle.session_serving.specs.AheadOutput.{IsOutputBy, looked_from, looked_in, looked_over, looked_step}
use Rattle.session_serving.specs.SessionOutput.{IsOutputOf, Output, said, session_over}
use Rattle.session_serving.proofs.Sessions.{uncancelled_session}

all_both : (a b : List (session.Reply Question)) → AllByRecursion AsksThat a → AllByRecursion AsksThat b → AllByRecursion AsksThat (a ++ b)
all_both [] b first second = second
all_both (r ∷ a) b first second = (first.0, all_both a b first.1 second)

followed_asks : (end : Option Ending) (s : Stepped Question) (more : State → Run Question) → AllByRecursion AsksThat s.replies → ((state : State) → AllByRecursion AsksThat (more state).replies) → AllByRecursion AsksThat (followed end s more).replies
followed_asks (Some exit) s more first later = first
followed_asks None s more first later = all_both s.replies (more s.state).replies first (later s.state)

-- a request that is cancelled asks nothing, or what it asks without that
cancelled_asks : (mode : Mode) (state : State) (id : session.Id) (plain : Stepped Question) → AllByRecursion AsksThat plain.replies → AllByRecursion AsksThat (cancelled_step mode state id plain).replies
cancelled_asks session.Fresh state id plain asks = asks
cancelled_asks session.Running state id plain asks = (tt, tt)
cancelled_asks session.Shut state id plain asks = asks

looked_asks : (state : State) (body : List ℕ) (cancelled : Option Id) → AllByRecursion AsksThat (looked_step state (body, cancelled)).replies
looked_asks state body None = step_asks state (message_of body)
looked_asks state body (Some id) = cancelled_asks state.mode state (said_id id) (step offsets questions state (said body)) (step_asks state (message_of body))

session_asks : (bodies : List Looked) (state : State) → AllByRecursion AsksThat (looked_from state bodies).replies
session_asks [] state = tt
session_asks (body ∷ bodies) state =
    followed_asks (looked_step state body).end (looked_step state body) (λ next. looked_from next bodies) (looked_asks state body.0 body.1) (session_asks bodies)

pub some_output : (bytes : List ℕ) → (output : Output) × IsOutputOf bytes output
some_output bytes =
    let read = every_reading bytes in
    let asks = subst (λ (run : Run Question). AllByRecursion AsksThat run.replies) (sym (uncancelled_session read.0 (begin empty))) (session_asks (looked OneByOne read.0) (begin empty)) in
    let answers = some_replies (session_over read.0).replies asks in (
      record { messages = answers.0; exit = (session_over read.0).end; end = read.1 },
      record { bodies = read.0; frames = read.2; answered = answers.1; exits = refl },
    )

pub some_output_by : (looking : Looking) (pieces : List (List ℕ)) → (output : Output) × IsOutputBy looking pieces output
some_output_by looking pieces =
    let read = some_completion pieces in
    let answers = some_replies (looked_over looking read.0).replies (session_asks (looked_in looking read.0) (begin empty)) in (
      record { messages = answers.0; exit = (looked_over looking read.0).end; end = read.1 },
      record { given = read.0; complete = read.2; answered = answers.1; exits = refl },
    )
