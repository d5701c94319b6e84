use Rattle.std.proofs.Common.{◌≡◌, map, take}
use Rattle.std.specs.List.{flat_map}
use Rattle.program_findings.specs.Unbound.{form_unbound}
use Rattle.program_findings.proofs.unbound.in_forms.Given as goal

abbrev pub invariant-loop-form : goal.invariant-loop-form
invariant-loop-form l = l.found.items ≡ flat_map form_unbound (take l.form-index (map (λ form. form.now) l.forms))
