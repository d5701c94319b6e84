use Rattle.std.proofs.Common.{◌≡◌, drop}
use Rattle.program_differences.specs.Listed.{forms_of, least_or, least_among}
use Rattle.program_differences.proofs.listed.least_form.Given as goal

abbrev pub invariant-loop-error : goal.invariant-loop-error
invariant-loop-error l = least_or l.least (forms_of (drop l.error-index l.errors)) ≡ least_among (forms_of l.errors)
