-- Changes of a text of one line of ASCII characters, so that a position's character is its offset. The map of the
-- documents doesn't compute; what events leave of it is shown by the rows of the store.
-- Written by tests/definitions/rows; each row is checked by computing it.
use Rattle.std.specs.Prelude.{◌≡◌, ℕ, List, [], ◌∷◌, Option, Some, None, Ok, Err, codes, refl}
use Rattle.scheme_model.specs.Texts as x
use Rattle.scheme_model.specs.Texts.{Offsets, Range, Change, edits}

abbrev r : ℕ → ℕ → ℕ → ℕ → Range
r line character end_line end_character = record { start = record { line = line; character = character }; end = record { line = end_line; character = end_character } }

abbrev c : Option Range → List ℕ → Change
c range text = record { range = range; text = text }

abbrev offsets : Offsets
offsets encoding text position = position.character

pub change-whole : edits offsets x.Utf16 ((c None (codes "xy")) ∷ []) (codes "abc") ≡ Ok (codes "xy")
change-whole = refl

pub change-range : edits offsets x.Utf16 ((c (Some (r 0 1 0 3)) (codes "XYZ")) ∷ []) (codes "abcdef") ≡ Ok (codes "aXYZdef")
change-range = refl

pub change-insert : edits offsets x.Utf16 ((c (Some (r 0 3 0 3)) (codes "!")) ∷ []) (codes "abc") ≡ Ok (codes "abc!")
change-insert = refl

pub change-two : edits offsets x.Utf16 ((c (Some (r 0 0 0 3)) ([])) ∷ (c (Some (r 0 0 0 1)) (codes "D")) ∷ []) (codes "abcdef") ≡ Ok (codes "Def")
change-two = refl

pub change-none : edits offsets x.Utf16 ([]) (codes "abc") ≡ Ok (codes "abc")
change-none = refl

pub change-backward : edits offsets x.Utf16 ((c (Some (r 0 2 0 1)) (codes "x")) ∷ []) (codes "abc") ≡ Err x.BadRange
change-backward = refl

pub change-backward-line : edits offsets x.Utf16 ((c (Some (r 1 0 0 5)) (codes "x")) ∷ []) (codes "abc") ≡ Err x.BadRange
change-backward-line = refl

pub change-then-backward : edits offsets x.Utf16 ((c None (codes "x")) ∷ (c (Some (r 0 2 0 1)) (codes "x")) ∷ []) (codes "abc") ≡ Err x.BadRange
change-then-backward = refl
