-- The lines of diagnostics (LSP 3.17, Diagnostic).
use Rattle.std.specs.Prelude.{ℕ, List, [], ◌∷◌, ◌++◌, ◌==◌, Bool, codes, if◌then◌else◌}
use Rattle.std.specs.Fmt.{decimal}
use Rattle.std.specs.List.{list_any}
use Rattle.ls_base.specs.declared.answers.Diagnostic.{Diagnostic}
use Rattle.ls_base.specs.declared.places.Pos.{Pos}
use Rattle.command_lines.specs.Places.{place_text}

-- 1 is an Error, and others are warnings (LSP 3.17, DiagnosticSeverity)
abbrev pub is_error : Diagnostic → Bool
is_error d = d.severity == 1

abbrev pub kind_of : ℕ → List ℕ
kind_of severity = if severity == 1 then codes "error" else codes "warning"

-- `error CODE TEXT`, or `warning` in place of `error`
abbrev pub finding_text : Diagnostic → List ℕ
finding_text d = kind_of d.severity ++ (codes " " ++ decimal d.code) ++ (codes " " ++ d.message)

-- `URI:LINE:COLUMN: error CODE TEXT`
abbrev pub diagnostic_line : (uri : List ℕ) → Diagnostic → List ℕ
diagnostic_line uri d = uri ++ (codes ":" ++ place_text d.range.start) ++ (codes ": " ++ finding_text d) ++ codes "\n"

abbrev pub diagnostic_lines : (uri : List ℕ) → List Diagnostic → List ℕ
diagnostic_lines uri [] = []
diagnostic_lines uri (d ∷ ds) = diagnostic_line uri d ++ diagnostic_lines uri ds

-- of a file that isn't UTF-8, at its begin
abbrev pub start : Pos
start = record { line = 0; character = 0 }

abbrev pub not_utf8 : Diagnostic
not_utf8 = record { range = record { start = start; end = start }; code = 13; severity = 1; message = codes "not UTF-8" }

-- one of them is an Error
abbrev pub has_error : List Diagnostic → Bool
has_error ds = list_any is_error ds
