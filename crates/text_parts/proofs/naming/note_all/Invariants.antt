use Rattle.std.proofs.Common.{◌≡◌, ℕ, ◌<◌, length, take}
use Rattle.std.specs.Prelude.{◌||◌}
use Rattle.std.specs.List.{filter_map}
use Rattle.scheme_model.specs.Includes.{is_among}
use Rattle.included_documents.specs.Meant.{meant}
use Rattle.included_strings.specs.Strings.{texts_now}
use Rattle.text_parts.specs.Marks.{marked}
use Rattle.text_parts.proofs.naming.note_all.Given as goal

abbrev pub invariant-loop-string : goal.invariant-loop-string
invariant-loop-string l = (length l.marks.items ≡ length l.fn.marks.items) × ((k : ℕ) → k < length l.fn.marks.items →
    marked l.marks.items k ≡ (marked l.fn.marks.items k || is_among (filter_map (meant l.uris l.document) (texts_now (take l.string-index l.strings))) k))
