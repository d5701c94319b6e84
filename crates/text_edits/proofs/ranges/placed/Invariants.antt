use Rattle.std.proofs.Common.{◌≡◌, map, take}
use Rattle.text_edits.specs.Views.{edit_of, edit_told}
use Rattle.text_edits.proofs.ranges.placed.Given as goal

-- the edits gone through
abbrev pub invariant-loop-edit : goal.invariant-loop-edit
invariant-loop-edit l = l.placed ≡ map (edit_told l.encoding l.text) (map edit_of (take l.edit-index l.edits))
