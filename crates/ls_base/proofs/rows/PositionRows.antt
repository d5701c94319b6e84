-- Positions and offsets, told by Python's codecs.
-- Written by tests/definitions/rows; each row is checked by computing it.
use Rattle.std.specs.Prelude.{◌≡◌, ℕ, List, [], ◌∷◌, codes, refl}
use Rattle.ls_base.specs.declared.encoding.Encoding.TheVariants as e
use Rattle.ls_base.specs.declared.places.Pos.{Pos}
use Rattle.ls_base.specs.Positions.{units_of, lines_of, offset_in, position_in}

abbrev p : ℕ → ℕ → Pos
p line character = record { line = line; character = character }

pub offset-1 : offset_in (units_of e.Utf16) (lines_of (40 ∷ 100 ∷ 101 ∷ 102 ∷ 105 ∷ 110 ∷ 101 ∷ 32 ∷ 120 ∷ 32 ∷ 34 ∷ 128512 ∷ 34 ∷ 41 ∷ 32 ∷ 40 ∷ 108 ∷ 105 ∷ 115 ∷ 116 ∷ 32 ∷ 120 ∷ 41 ∷ [])) 0 22 ≡ 24
offset-1 = refl

pub position-14 : position_in (units_of e.Utf8) (lines_of (40 ∷ 100 ∷ 101 ∷ 102 ∷ 105 ∷ 110 ∷ 101 ∷ 32 ∷ 120 ∷ 32 ∷ 34 ∷ 128512 ∷ 34 ∷ 41 ∷ 32 ∷ 40 ∷ 108 ∷ 105 ∷ 115 ∷ 116 ∷ 32 ∷ 120 ∷ 41 ∷ [])) 24 ≡ p 0 24
position-14 = refl

pub offset-27 : offset_in (units_of e.Utf8) (lines_of (97 ∷ 233 ∷ 13 ∷ 10 ∷ 8364 ∷ 13 ∷ 128512 ∷ 98 ∷ 10 ∷ [])) 0 1 ≡ 1
offset-27 = refl

pub offset-40 : offset_in (units_of e.Utf8) (lines_of (97 ∷ 233 ∷ 13 ∷ 10 ∷ 8364 ∷ 13 ∷ 128512 ∷ 98 ∷ 10 ∷ [])) 2 4 ≡ 13
offset-40 = refl

pub position-53 : position_in (units_of e.Utf8) (lines_of (97 ∷ 233 ∷ 13 ∷ 10 ∷ 8364 ∷ 13 ∷ 128512 ∷ 98 ∷ 10 ∷ [])) 4 ≡ p 0 3
position-53 = refl

pub position-66 : position_in (units_of e.Utf8) (lines_of (97 ∷ 233 ∷ 13 ∷ 10 ∷ 8364 ∷ 13 ∷ 128512 ∷ 98 ∷ 10 ∷ [])) 4294967295 ≡ p 3 0
position-66 = refl

pub offset-79 : offset_in (units_of e.Utf16) (lines_of (97 ∷ 233 ∷ 13 ∷ 10 ∷ 8364 ∷ 13 ∷ 128512 ∷ 98 ∷ 10 ∷ [])) 2 2 ≡ 13
offset-79 = refl

pub position-92 : position_in (units_of e.Utf16) (lines_of (97 ∷ 233 ∷ 13 ∷ 10 ∷ 8364 ∷ 13 ∷ 128512 ∷ 98 ∷ 10 ∷ [])) 2 ≡ p 0 1
position-92 = refl

pub position-105 : position_in (units_of e.Utf16) (lines_of (97 ∷ 233 ∷ 13 ∷ 10 ∷ 8364 ∷ 13 ∷ 128512 ∷ 98 ∷ 10 ∷ [])) 15 ≡ p 3 0
position-105 = refl

pub offset-118 : offset_in (units_of e.Utf32) (lines_of (97 ∷ 233 ∷ 13 ∷ 10 ∷ 8364 ∷ 13 ∷ 128512 ∷ 98 ∷ 10 ∷ [])) 2 0 ≡ 9
offset-118 = refl

pub position-131 : position_in (units_of e.Utf32) (lines_of (97 ∷ 233 ∷ 13 ∷ 10 ∷ 8364 ∷ 13 ∷ 128512 ∷ 98 ∷ 10 ∷ [])) 0 ≡ p 0 0
position-131 = refl

pub position-144 : position_in (units_of e.Utf32) (lines_of (97 ∷ 233 ∷ 13 ∷ 10 ∷ 8364 ∷ 13 ∷ 128512 ∷ 98 ∷ 10 ∷ [])) 13 ≡ p 2 1
position-144 = refl

pub position-157 : position_in (units_of e.Utf8) (lines_of (101 ∷ 769 ∷ 120 ∷ 10 ∷ 769 ∷ [])) 0 ≡ p 0 0
position-157 = refl

pub offset-170 : offset_in (units_of e.Utf16) (lines_of (101 ∷ 769 ∷ 120 ∷ 10 ∷ 769 ∷ [])) 1 0 ≡ 5
offset-170 = refl

pub offset-183 : offset_in (units_of e.Utf32) (lines_of (101 ∷ 769 ∷ 120 ∷ 10 ∷ 769 ∷ [])) 0 3 ≡ 4
offset-183 = refl

pub position-196 : position_in (units_of e.Utf32) (lines_of (101 ∷ 769 ∷ 120 ∷ 10 ∷ 769 ∷ [])) 7 ≡ p 1 1
position-196 = refl

pub offset-209 : offset_in (units_of e.Utf32) (lines_of ([])) 1 0 ≡ 0
offset-209 = refl

pub position-222 : position_in (units_of e.Utf8) (lines_of (10 ∷ 13 ∷ 13 ∷ 10 ∷ [])) 4 ≡ p 3 0
position-222 = refl

pub position-235 : position_in (units_of e.Utf16) (lines_of (10 ∷ 13 ∷ 13 ∷ 10 ∷ [])) 5 ≡ p 3 0
position-235 = refl

pub offset-248 : offset_in (units_of e.Utf8) (lines_of (128512 ∷ 128512 ∷ [])) 0 0 ≡ 0
offset-248 = refl

pub position-261 : position_in (units_of e.Utf8) (lines_of (128512 ∷ 128512 ∷ [])) 3 ≡ p 0 0
position-261 = refl

pub offset-274 : offset_in (units_of e.Utf16) (lines_of (128512 ∷ 128512 ∷ [])) 0 6 ≡ 8
offset-274 = refl

pub position-287 : position_in (units_of e.Utf16) (lines_of (128512 ∷ 128512 ∷ [])) 9 ≡ p 0 4
position-287 = refl

pub position-300 : position_in (units_of e.Utf32) (lines_of (128512 ∷ 128512 ∷ [])) 2 ≡ p 0 0
position-300 = refl

pub offset-313 : offset_in (units_of e.Utf16) (lines_of (120 ∷ 13 ∷ [])) 0 1 ≡ 1
offset-313 = refl

pub offset-326 : offset_in (units_of e.Utf8) (lines_of (97 ∷ 8232 ∷ 98 ∷ 133 ∷ 99 ∷ [])) 1 0 ≡ 8
offset-326 = refl

pub position-339 : position_in (units_of e.Utf16) (lines_of (97 ∷ 8232 ∷ 98 ∷ 133 ∷ 99 ∷ [])) 7 ≡ p 0 4
position-339 = refl
