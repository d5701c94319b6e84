use Rattle.std.proofs.Common.{◌≡◌, ◌+◌, ◌≤◌, length, map, drop}
use Rattle.ls_base.specs.Limits.{max_text}
use Rattle.text_edits.specs.Edits.{edited_from, edited}
use Rattle.text_edits.specs.Views.{edit_of, AreCuts}
use Rattle.text_edits.proofs.edits.is_too_long.Given as goal

-- what is left of the text is as long as the edited text is longer than what was counted
abbrev pub invariant-loop-edit : goal.invariant-loop-edit
invariant-loop-edit l =
    (l.length + length (edited_from l.at (map edit_of (drop l.edit-index l.edits)) (drop l.at l.text)) ≡ length (edited (map edit_of l.edits) l.text))
    × AreCuts l.text l.at (map edit_of (drop l.edit-index l.edits)) × (l.length ≤ max_text)
