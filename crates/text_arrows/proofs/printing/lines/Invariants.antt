use Rattle.std.proofs.Common.{◌≡◌, ◌++◌, drop}
use Rattle.std.specs.String.{string_bytes}
use Rattle.text_arrows.specs.Printed.{lines_of}
use Rattle.text_arrows.proofs.printing.lines.Given as goal

-- the lines so far, and those of the arrows that are left
abbrev pub invariant-loop-arrow : goal.invariant-loop-arrow
invariant-loop-arrow l = string_bytes l.text ++ lines_of (drop l.arrow-index l.arrows) ≡ lines_of l.arrows
