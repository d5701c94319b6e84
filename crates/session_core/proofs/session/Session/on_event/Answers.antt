use Rattle.std.proofs.Common.{subst}
use Rattle.scheme_model.specs.Session.{State, evented}
use Rattle.document_changes.specs.Events.{event_of}
use Rattle.session_replies.specs.Agreement.{said_event}
use Rattle.session_replies.specs.Asked.{questions}
use Rattle.session_replies.specs.Counted.{AreCounted}
use Rattle.session_replies.specs.FromWire.{offsets}
use Rattle.session_core.proofs.session.Session.on_event.Goals as goal

pub returns-clause-counted : goal.returns-clause-counted
returns-clause-counted g c =
    subst (λ (s : State). AreCounted (evented offsets questions s (said_event (event_of c.args.event.now))).replies c.args.steps.now c.on_event.new.steps) c.self.view_is
    (c.in_ok-on_event.ensures.counted c.self.inside.mode)
