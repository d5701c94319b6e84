use Rattle.std.proofs.Common.{◌≡◌, ◌++◌, drop}
use Rattle.std.specs.FinMap.{entries}
use Rattle.class_edits.specs.DocumentEdits as edits
use Rattle.class_edits.specs.DocumentEdits.{seen}
use Rattle.class_edits.proofs.texts.told_edits.Given as goal

-- the edits of the documents gone through, before those that are left
abbrev pub invariant-loop-number : goal.invariant-loop-number
invariant-loop-number l =
    l.told ++ edits.told l.encoding (drop l.number (entries l.texts)) (seen (drop l.number l.all)) ≡ edits.told l.encoding (entries l.texts) (seen l.all)
