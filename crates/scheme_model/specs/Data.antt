-- Data (R7RS 7.1.2), with the numbers and the bytes of their tokens.
use Rattle.std.specs.Prelude.{ℕ, List, [], ◌∷◌}
use Rattle.scheme_model.specs.Kinds.{Leaf, Mark}

-- the numbers of the first and the last token of a datum, and its bytes
pub record Place : Type 0 where
  pub first : ℕ
  pub last : ℕ
  pub start : ℕ
  pub end : ℕ

-- what one token spells by itself, or the identifier that the mark in front of a datum implies
pub data Atom : Type 0 where
  spelled : Leaf → Atom
  implied : Mark → Atom

-- an atom, at its token; a list; a vector; a bytevector by its numerals
mutual
  pub data Datum : Type 0 where
    atom : Place → Atom → Datum
    list : Place → Data → Datum
    vector : Place → Data → Datum
    bytes : Place → List (List ℕ) → Datum

  -- data in a row, at whose end a tail may stand behind a dot
  pub data Data : Type 0 where
    none : Data
    part : Datum → Data → Data
    tail : Datum → Data

abbrev pub place_of : Datum → Place
place_of (atom p k) = p
place_of (list p ds) = p
place_of (vector p ds) = p
place_of (bytes p bs) = p

-- parts before what ends them
abbrev pub row : List Datum → Data → Data
row [] end = end
row (d ∷ ds) end = part d (row ds end)

-- what a tail adds to its list: a list its parts and its tail
abbrev pub tail_of : Datum → Data
tail_of (atom p k) = tail (atom p k)
tail_of (list p ds) = ds
tail_of (vector p ds) = tail (vector p ds)
tail_of (bytes p bs) = tail (bytes p bs)
