use Rattle.std.proofs.Common.{◌≡◌, map, take}
use Rattle.unit_results.proofs.results.references.Given as goal

abbrev pub invariant-loop-form : goal.invariant-loop-form
invariant-loop-form l = map (λ form. form.now) l.all.items ≡ take l.form-index l.forms
