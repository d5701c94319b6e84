use Rattle.std.proofs.Common.{ap, ◌∙◌}
use Rattle.scheme_model.specs.Session.{State}
use Rattle.session_replies.proofs.BegunLaws.{none_open}
use Rattle.session_core.proofs.session.Session.on_fresh_call.Goals as goal

pub set_encoding-requires : goal.set_encoding-requires
set_encoding-requires c = none_open c.self.inside.mode c.self.inside.workspace.texts (ap (λ (s : State). s.mode) c.self.view_is ∙ c.requires) c.self.invariant
