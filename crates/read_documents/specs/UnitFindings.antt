-- What is found of the units of a program: its diagnostics and Errors, and the first of these.
use Rattle.std.specs.Prelude.{◌≡◌, ℕ, List, [], length, filter, slice_get, Option, Some, None, map}
use Rattle.scheme_model.specs.Program.{UnitResult, Program}
use Rattle.scheme_model.specs.Diagnostics.{Diagnostic, sorted, unit_diagnostics}
use Rattle.core_tree.specs.Units.{unit_errors, error_as}
use Rattle.read_documents.specs.declared.findings.At.{At}
use Rattle.read_documents.specs.declared.findings.Finding.{Finding}
use Rattle.read_documents.specs.Findings.{Adds, first_of, is_error}
use Rattle.read_documents.specs.Readings.{Read}
use Rattle.read_documents.specs.Places.{spans_of}
use Rattle.core_tree.specs.declared.units.Unit as code

-- what is found of a unit of a program
abbrev pub IsFoundOf : List Read → Program → UnitResult → List Finding → Type 0
IsFoundOf rs p r fs = Adds [] fs (unit_diagnostics (spans_of rs) p r r.fault) (unit_errors r)

-- the first of a unit's Errors: its place and its code
abbrev pub first_error_of : List Diagnostic → Option (At × ℕ)
first_error_of ds = first_of (filter (λ d. is_error d.code) (sorted ds))

abbrev pub first_error_at : List Read → Program → Option UnitResult → Option (At × ℕ)
first_error_at rs p None = None
first_error_at rs p (Some r) = first_error_of (unit_diagnostics (spans_of rs) p r r.fault)

-- those of the units of a program
pub record AreFirstErrors (rs : List Read) (p : Program) (es : List (Option (At × ℕ))) : Type 0 where
  pub count : length es ≡ length p.units
  pub each : (n : ℕ) (e : Option (At × ℕ)) (r : UnitResult) → slice_get es n ≡ Some e → slice_get p.units n ≡ Some r → e ≡ first_error_at rs p (Some r)

-- the Errors of units are those of their results
abbrev pub HaveErrors : List code.Unit → List UnitResult → Type 0
HaveErrors cs rs = (n : ℕ) (c : code.Unit) (r : UnitResult) → slice_get cs n ≡ Some c → slice_get rs n ≡ Some r → map error_as c.errors ≡ unit_errors r
