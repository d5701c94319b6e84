-- How a definition ends, by the number of its fault.
use Rattle.std.specs.Prelude.{ℕ, nat_eq, if◌then◌else◌}
use Rattle.form_notes.specs.declared.notes.Outcome as code_outcome
use Rattle.form_notes.specs.declared.notes.Outcome.TheVariants as outcomes

abbrev pub failed_as : ℕ → code_outcome.Outcome
failed_as code = if nat_eq code 41 then outcomes.Redefines else outcomes.StoodBefore
