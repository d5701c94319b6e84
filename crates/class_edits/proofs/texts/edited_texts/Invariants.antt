use Rattle.std.proofs.Common.{◌≡◌, ◌++◌, drop}
use Rattle.std.specs.FinMap.{entries}
use Rattle.class_edits.specs.DocumentEdits.{all_edited, seen}
use Rattle.class_edits.proofs.texts.edited_texts.Given as goal

-- the edited texts of the documents gone through, before those that are left
abbrev pub invariant-loop-number : goal.invariant-loop-number
invariant-loop-number l = l.edited ++ all_edited (drop l.number (entries l.texts)) (seen (drop l.number l.all)) ≡ all_edited (entries l.texts) (seen l.all)
