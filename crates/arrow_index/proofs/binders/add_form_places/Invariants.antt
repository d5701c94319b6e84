use Rattle.std.proofs.Common.{◌≡◌, ◌++◌, take}
use Rattle.arrow_index.specs.Binders.{form_places}
use Rattle.arrow_index.proofs.binders.add_form_places.Given as goal

abbrev pub invariant-loop-form : goal.invariant-loop-form
invariant-loop-form l = l.places.items ≡ l.fn.places.items ++ form_places (take l.form-index l.forms)
