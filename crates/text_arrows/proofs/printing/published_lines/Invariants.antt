use Rattle.std.proofs.Common.{◌≡◌, ◌++◌, drop}
use Rattle.std.specs.String.{string_bytes}
use Rattle.text_arrows.specs.Printed.{published_lines}
use Rattle.text_arrows.proofs.printing.published_lines.Given as goal

-- the lines so far, and those of the lists that are left
abbrev pub invariant-loop-list : goal.invariant-loop-list
invariant-loop-list l = string_bytes l.text ++ published_lines (drop l.list-index l.lists) ≡ published_lines l.lists
