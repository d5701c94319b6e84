use Rattle.std.proofs.Common.{◌≡◌, map, take}
use Rattle.document_units.proofs.listing.firsts_of.Given as goal

abbrev pub invariant-loop-form : goal.invariant-loop-form
invariant-loop-form l = l.firsts.items ≡ map (λ f. f.datum.first) (take l.form-index l.forms)
