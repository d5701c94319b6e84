use Rattle.scheme_model.specs.Included.{Texts}
use Rattle.included_forms.proofs.Planned.{PlansFrom}
use Rattle.included_forms.proofs.PlanLaws.{own_given}
use Rattle.included_forms.proofs.plans.own_forms.Given as goal

abbrev pub invariant-loop-datum : goal.invariant-loop-datum
invariant-loop-datum l = (t : Texts) → PlansFrom t l.document (own_given t l.document) l.«data» l.datum-index l.initial.steps.items l.steps.items
