use Rattle.std.proofs.Common.{◌+◌, ◌*◌, map}
use Rattle.scheme_model.specs.Data.{Datum}
use Rattle.scheme_model.specs.Included.{Texts, declaration}
use Rattle.scheme_model.specs.Requirements.{Known}
use Rattle.datum_reader.specs.Views.{datum_of, data_of}
use Rattle.known_libraries.specs.PartsRead.{Knows}
use Rattle.known_libraries.specs.Weights.{weight, row_weight}
use Rattle.included_forms.specs.Steps.{from}
use Rattle.included_forms.proofs.Planned.{PlansFrom}
use Rattle.included_forms.proofs.planning.+planning.Given as goal

abbrev pub decreases-declarations : goal.decreases-declarations
decreases-declarations l = 4 * row_weight (data_of l.parts.now) + 1

abbrev pub decreases-declaration : goal.decreases-declaration
decreases-declaration l = 4 * weight (datum_of l.datum.now)

abbrev pub decreases-list_declaration : goal.decreases-list_declaration
decreases-list_declaration l = 4 * row_weight (data_of l.parts.now) + 3

abbrev pub decreases-declare : goal.decreases-declare
decreases-declare l = 4 * row_weight (data_of l.rest.now) + 3

abbrev pub decreases-choice : goal.decreases-choice
decreases-choice l = 4 * row_weight (data_of l.rest.now) + 2

abbrev pub invariant-declarations-loop-part : goal.invariant-declarations-loop-part
invariant-declarations-loop-part l = (t : Texts) (has : Known) → Knows l.known.names has → (any : Datum) →
    PlansFrom t l.origin.document (λ ds. map (declaration t has (from l.origin any)) (data_of ds)) l.parts l.part-index l.initial.steps.items l.steps.items
