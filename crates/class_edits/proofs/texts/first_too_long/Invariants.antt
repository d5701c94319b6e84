use Rattle.std.proofs.Common.{◌≡◌, drop}
use Rattle.std.specs.FinMap.{entries}
use Rattle.class_edits.specs.DocumentEdits.{seen, too_long}
use Rattle.class_edits.proofs.texts.first_too_long.Given as goal

-- the first that is too long is left
abbrev pub invariant-loop-number : goal.invariant-loop-number
invariant-loop-number l = too_long (drop l.number (entries l.texts)) (seen (drop l.number l.all)) ≡ too_long (entries l.texts) (seen l.all)
