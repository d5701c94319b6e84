use Rattle.std.proofs.Common.{◌≡◌, ◌++◌, drop}
use Rattle.std.specs.String.{string_bytes}
use Rattle.command_lines.specs.Edits.{document_lines}
use Rattle.command_lines.proofs.edits.document_lines.Given as goal

-- the lines so far, and those of the edits that are left
abbrev pub invariant-loop-edit : goal.invariant-loop-edit
invariant-loop-edit l = string_bytes l.text ++ document_lines l.uri (drop l.edit-index l.edits) ≡ document_lines l.uri l.edits
