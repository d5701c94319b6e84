-- The fault that is answered is that of the refusal.
use Rattle.std.proofs.Common.{sym, ◌∙◌}
use Rattle.document_changes.specs.Events.{event_of}
use Rattle.document_changes.proofs.LeavesLaws.{none_leaves, some_leaves}
use Rattle.document_changes.proofs.events.DocEvent.is_left.Goals as goal

pub returns-in-None : goal.returns-in-None
returns-in-None c = λ r is. none_leaves (event_of c.args.self.now) r (sym c.in-None.is ∙ is)

pub returns-in-Some : goal.returns-in-Some
returns-in-Some c = λ r is. c.leaves.ensures ∙ some_leaves (event_of c.args.self.now) c.in-Some.fault r (sym c.in-Some.is ∙ is)
