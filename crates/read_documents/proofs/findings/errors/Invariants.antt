use Rattle.std.proofs.Common.{◌≡◌, map, take}
use Rattle.core_tree.specs.Units.{error_as}
use Rattle.read_documents.specs.Findings.{errors_in}
use Rattle.read_documents.proofs.findings.errors.Given as goal

-- the Errors among the findings gone through
abbrev pub invariant-loop-form : goal.invariant-loop-form
invariant-loop-form l = map error_as l.errors ≡ errors_in (take l.form-index l.findings)
