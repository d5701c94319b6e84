use Rattle.std.proofs.Common.{◌≡◌, ◌++◌, map, drop}
use Rattle.std.specs.String.{string_bytes}
use Rattle.text_edits.specs.Edits.{edited_from, edited}
use Rattle.text_edits.specs.Views.{edit_of, AreCuts}
use Rattle.text_edits.proofs.edits.edited_text.Given as goal

-- what is left of the text stands behind what is there, with the edits that are left
abbrev pub invariant-loop-edit : goal.invariant-loop-edit
invariant-loop-edit l =
    (string_bytes l.new ++ edited_from l.at (map edit_of (drop l.edit-index l.edits)) (drop l.at l.text) ≡ edited (map edit_of l.edits) l.text)
    × AreCuts l.text l.at (map edit_of (drop l.edit-index l.edits))
