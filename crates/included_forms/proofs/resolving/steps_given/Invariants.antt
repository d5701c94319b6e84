use Rattle.std.proofs.Common.{◌≡◌, ℕ, List, map, take}
use Rattle.scheme_model.specs.Included.{Sources, Texts}
use Rattle.included_forms.specs.Counted.{listing_of}
use Rattle.included_forms.specs.Steps.{given_by}
use Rattle.included_forms.specs.Tables.{Serve, Mean, Placed, givens}
use Rattle.included_forms.proofs.resolving.steps_given.Given as goal

abbrev pub invariant-loop-step : goal.invariant-loop-step
invariant-loop-step l = (o : Sources) (t : Texts) (ms : List ℕ) → Serve o t → Mean o l.uris → Placed o.usable ms l.places →
    map (listing_of (givens o t ms)) l.all.items ≡ map (given_by t l.document) (take l.step-index l.steps)
