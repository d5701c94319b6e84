use Rattle.std.proofs.Common.{refl, ap}
use Rattle.scheme_model.specs.Session.{State, Shut, with_mode}
use Rattle.session_replies.specs.Asked.{Nothing}
use Rattle.session_core.proofs.session.Session.on_call.Goals as goal

pub returns-in_ok-out-in-Shutdown-clause-step : goal.returns-in_ok-out-in-Shutdown-clause-step
returns-in_ok-out-in-Shutdown-clause-step g c =
    let says = c.in_ok-out-in-Shutdown.ensures Nothing refl in
    rw c.in-Shutdown.is (record { state = ap (λ (s : State). with_mode Shut s) c.self-in-Shutdown.view_is; replies = says.0; end = says.1 })
