use Rattle.std.proofs.Common.{◌≡◌, ◌++◌, drop}
use Rattle.std.specs.String.{string_bytes}
use Rattle.command_lines.specs.Edits.{edit_lines}
use Rattle.command_lines.proofs.edits.edit_lines.Given as goal

-- the lines so far, and those of the documents that are left
abbrev pub invariant-loop-document : goal.invariant-loop-document
invariant-loop-document l = string_bytes l.text ++ edit_lines (drop l.document-index l.edits) ≡ edit_lines l.edits
