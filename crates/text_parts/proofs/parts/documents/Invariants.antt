use Rattle.std.proofs.Common.{◌≡◌, ℕ, List, length}
use Rattle.scheme_model.specs.Includes.{naming}
use Rattle.text_parts.specs.Documents.{documents_in}
use Rattle.text_parts.specs.Marks.{Rows}
use Rattle.text_parts.specs.Parts.{IsReach, IsTextPart}
use Rattle.text_parts.specs.Places.{Each}
use Rattle.text_parts.specs.Programs.{IsProgramPlace}
use Rattle.text_parts.proofs.parts.documents.Given as goal

abbrev pub invariant-loop-place : goal.invariant-loop-place
invariant-loop-place l = (length l.parts.items ≡ l.place) × ((uris : List (List ℕ)) → let ds = documents_in uris l.texts in Rows l.rows (naming ds) → Each (IsReach (naming ds)) l.reaches →
    Each (IsProgramPlace ds) l.programs → Each (IsTextPart ds) l.parts.items)
