use Rattle.scheme_model.specs.Included.{Texts}
use Rattle.scheme_model.specs.Requirements.{Known}
use Rattle.known_libraries.specs.PartsRead.{Knows}
use Rattle.included_forms.proofs.PlanLaws.{NumberedUpTo}
use Rattle.included_forms.proofs.plans.included_data.Given as goal

abbrev pub invariant-loop-datum : goal.invariant-loop-datum
invariant-loop-datum l = (t : Texts) (has : Known) → Knows l.known.names has → NumberedUpTo t has l.way l.document l.unit l.«data» l.datum-index l.number l.initial.steps.items l.steps.items
