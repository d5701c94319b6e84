use Rattle.std.proofs.Common.{◌≡◌, map, take}
use Rattle.scheme_model.specs.Declarations.{unit_or}
use Rattle.document_units.proofs.listing.homes_of.Given as goal

abbrev pub invariant-loop-form : goal.invariant-loop-form
invariant-loop-form l = l.homes.items ≡ map (λ f. unit_or l.unit f.home) (take l.form-index l.forms)
