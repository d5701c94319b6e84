use Rattle.std.proofs.Common.{◌≡◌, ◌++◌, drop}
use Rattle.std.specs.String.{string_bytes}
use Rattle.command_lines.specs.Diagnostics.{diagnostic_lines}
use Rattle.command_lines.proofs.diagnostics.diagnostic_lines.Given as goal

-- the lines so far, and those of the diagnostics that are left
abbrev pub invariant-loop-diagnostic : goal.invariant-loop-diagnostic
invariant-loop-diagnostic l = string_bytes l.text ++ diagnostic_lines l.uri (drop l.diagnostic-index l.diagnostics) ≡ diagnostic_lines l.uri l.diagnostics
