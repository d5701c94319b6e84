use Rattle.std.proofs.Common.{map}
use Rattle.scheme_model.specs.Included.{Texts, form_or_texts}
use Rattle.datum_reader.specs.Views.{data_of}
use Rattle.included_forms.specs.Steps.{from}
use Rattle.included_forms.proofs.Planned.{PlansFrom}
use Rattle.included_forms.proofs.planning.forms.Given as goal

abbrev pub invariant-loop-datum : goal.invariant-loop-datum
invariant-loop-datum l = (t : Texts) → PlansFrom t l.origin.document (λ ds. map (λ d. form_or_texts t (from l.origin d)) (data_of ds)) l.parts l.datum-index l.initial.steps.items l.steps.items
