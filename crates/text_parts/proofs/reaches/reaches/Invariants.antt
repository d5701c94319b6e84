use Rattle.std.proofs.Common.{◌≡◌, length}
use Rattle.scheme_model.specs.Includes.{Naming}
use Rattle.text_parts.specs.Marks.{Rows}
use Rattle.text_parts.specs.Parts.{IsReach}
use Rattle.text_parts.specs.Places.{Each}
use Rattle.text_parts.proofs.reaches.reaches.Given as goal

abbrev pub invariant-loop-document : goal.invariant-loop-document
invariant-loop-document l = (length l.reaches.items ≡ l.document) × ((all : Naming) → Rows l.rows all → Each (IsReach all) l.reaches.items)
