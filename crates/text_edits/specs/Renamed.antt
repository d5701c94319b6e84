-- Data whose identifiers have new names. The tokens are the same, by their numbers; they may stand elsewhere, and an identifier with
-- a new name may stand between bars or not.
use Rattle.std.specs.Prelude.{ℕ, List, map, Bool, Option, Some, None}
use Rattle.std.specs.Str.{chars}
use Rattle.scheme_model.specs.Kinds.{Leaf, Name, Numeral, Quoted, Character, Truth}
use Rattle.scheme_model.specs.Data.{Place, Atom, spelled, implied, Datum, atom, list, vector, bytes, Data, none, part, tail}
use Rattle.datum_reader.specs.Texts.{IsReading}

-- where the tokens stand, which of them have new names, and which of those stand between bars
pub record Now : Type 0 where
  pub start : ℕ → ℕ
  pub end : ℕ → ℕ
  pub new : ℕ → Option (List ℕ)
  pub bars : ℕ → Bool

abbrev pub name_with : Option (List ℕ) → (in_bars : Bool) → List ℕ → Bool → Leaf
name_with None in_bars old bars = Name old bars
name_with (Some name) in_bars old bars = Name (chars name) in_bars

abbrev pub leaf_with : Option (List ℕ) → (in_bars : Bool) → Leaf → Leaf
leaf_with new in_bars (Name old bars) = name_with new in_bars old bars
leaf_with new in_bars (Numeral text) = Numeral text
leaf_with new in_bars (Quoted text) = Quoted text
leaf_with new in_bars (Character c) = Character c
leaf_with new in_bars (Truth b) = Truth b

abbrev pub place_now : Now → Place → Place
place_now now p = record { first = p.first; last = p.last; start = now.start p.first; end = now.end p.last }

abbrev pub atom_now : Now → Place → Atom → Atom
atom_now now p (spelled leaf) = spelled (leaf_with (now.new p.first) (now.bars p.first) leaf)
atom_now now p (implied mark) = implied mark

abbrev mutual
  pub datum_now : Now → Datum → Datum
  datum_now now (atom p a) = atom (place_now now p) (atom_now now p a)
  datum_now now (list p ds) = list (place_now now p) (data_now now ds)
  datum_now now (vector p ds) = vector (place_now now p) (data_now now ds)
  datum_now now (bytes p bs) = bytes (place_now now p) bs

  pub data_now : Now → Data → Data
  data_now now none = none
  data_now now (part d ds) = part (datum_now now d) (data_now now ds)
  data_now now (tail d) = tail (datum_now now d)

-- a text is these data with new names for some identifiers
pub record IsRenamed (new : ℕ → Option (List ℕ)) (ds : List Datum) (text : List ℕ) : Type 0 where
  pub start : ℕ → ℕ
  pub end : ℕ → ℕ
  pub bars : ℕ → Bool
  pub reading : IsReading text (map (datum_now (record { start = start; end = end; new = new; bars = bars })) ds)
