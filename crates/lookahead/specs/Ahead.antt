-- A session that looks ahead: before the first body of a group is answered, the others are looked at for cancellations (LSP 3.17,
-- "Cancellation Support").
use Rattle.std.specs.Prelude.{List, [], ◌∷◌, Option, Some, None, codes}
use Rattle.scheme_model.specs.Texts.{Offsets}
use Rattle.scheme_model.specs.Session.{Answers, Error, Fresh, Id, Message, Mode, Reply, Run, Running, Shut, State, Stepped, followed, minus, stays, step}

-- the error RequestCancelled (LSP 3.17, ErrorCodes)
abbrev pub request_cancelled : {A : Type 0} → Id → Reply A
request_cancelled id = Error (Some id) (minus 32800) (codes "request cancelled")

-- a cancelled request by the mode: while running it is answered with that error and does nothing else; in another mode it is answered as
-- ever, with the error of the mode
abbrev pub cancelled_step : {A : Type 0} → Mode → State → Id → Stepped A → Stepped A
cancelled_step Fresh state id plain = plain
cancelled_step Running state id plain = stays state (request_cancelled id ∷ [])
cancelled_step Shut state id plain = plain

-- one message, which is a request that is cancelled by its id, or isn't cancelled
abbrev pub step_ahead : {A : Type 0} → Offsets → Answers A → State → Message → Option Id → Stepped A
step_ahead offset answers state m None = step offset answers state m
step_ahead offset answers state m (Some id) = cancelled_step state.mode state id (step offset answers state m)

-- a whole run over messages, each beside the id by which it is cancelled, up to the first that ends the session
abbrev pub run_ahead : {A : Type 0} → Offsets → Answers A → List (Message × Option Id) → State → Run A
run_ahead offset answers [] state = record { replies = []; state = state; end = None }
run_ahead offset answers (m ∷ ms) state =
    followed (step_ahead offset answers state m.0 m.1).end (step_ahead offset answers state m.0 m.1) (λ next. run_ahead offset answers ms next)
