use Rattle.std.proofs.Common.{ℕ, map}
use Rattle.scheme_model.specs.Included.{Texts}
use Rattle.datum_reader.specs.Views.{data_of}
use Rattle.included_strings.specs.Strings.{strings_among}
use Rattle.included_forms.specs.Steps.{text_by}
use Rattle.included_forms.proofs.Planned.{PlansFrom}
use Rattle.included_forms.proofs.strings.push_texts.Given as goal

abbrev pub invariant-loop-datum : goal.invariant-loop-datum
invariant-loop-datum l = (t : Texts) (document : ℕ) → PlansFrom t document (λ ds. map (text_by t l.way document) (strings_among (data_of ds))) l.strings l.datum-index l.initial.steps.items l.steps.items
