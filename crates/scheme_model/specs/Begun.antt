-- Data that are partly written (R7RS 7.1.2): what the tokens before a place in a text are, where data can go on there.
use Rattle.std.specs.Prelude.{◌≡◌, ℕ, ◌+◌, ◌≤◌, max, true, List, ◌∷◌}
use Rattle.scheme_model.specs.Kinds as kinds
use Rattle.scheme_model.specs.Kinds.{Mark}
use Rattle.scheme_model.specs.Numbered.{Spot, Numbered, is_byte}
use Rattle.scheme_model.specs.Written.{Written, Gap, Parts, token, written_tokens, gap_tokens, parts_tokens, max_open, depth, gap_depth, parts_depth}

-- data on one level so far, each behind a gap
pub data Row : Type 0 where
  start : Row
  more : Row → Gap → Written → Row

-- numerals of a bytevector so far, each behind a gap
pub data ByteRow : Type 0 where
  no_bytes : ByteRow
  one_byte : ByteRow → Gap → Spot → (text : List ℕ) → is_byte 0 text ≡ true → ByteRow

-- what stands behind an opening token so far: in a list, before its dot, behind it, or behind its tail; in a vector; in a
-- bytevector; behind a mark; behind `#;`
pub data Inside : Type 0 where
  listing : Row → Gap → Inside
  behind_dot : Gap → Written → Parts → Spot → Gap → Inside
  behind_tail : Gap → Written → Parts → Spot → Gap → Written → Gap → Inside
  vectoring : Row → Gap → Inside
  byting : ByteRow → Gap → Inside
  behind_mark : Mark → Gap → Inside
  behind_skip : Gap → Inside

-- what stands on the outermost level, and what is open inside
pub data Begun : Type 0 where
  top : Row → Gap → Begun
  inside : Begun → Spot → Inside → Begun

-- ---- the tokens, before those that follow

abbrev pub row_tokens : Row → List Numbered → List Numbered
row_tokens start rest = rest
row_tokens (more r g w) rest = row_tokens r (gap_tokens g (written_tokens w rest))

abbrev pub bytes_before : ByteRow → List Numbered → List Numbered
bytes_before no_bytes rest = rest
bytes_before (one_byte r g s text fits) rest = bytes_before r (gap_tokens g (token s (kinds.Atomic (kinds.Numeral text)) ∷ rest))

abbrev pub inside_tokens : Spot → Inside → List Numbered → List Numbered
inside_tokens s (listing r g) rest = token s kinds.Paren ∷ row_tokens r (gap_tokens g rest)
inside_tokens s (behind_dot g w ps dot h) rest = token s kinds.Paren ∷ gap_tokens g (written_tokens w (parts_tokens ps (token dot kinds.Dot ∷ gap_tokens h rest)))
inside_tokens s (behind_tail g w ps dot h t i) rest =
    token s kinds.Paren ∷ gap_tokens g (written_tokens w (parts_tokens ps (token dot kinds.Dot ∷ gap_tokens h (written_tokens t (gap_tokens i rest)))))
inside_tokens s (vectoring r g) rest = token s kinds.VectorParen ∷ row_tokens r (gap_tokens g rest)
inside_tokens s (byting r g) rest = token s kinds.BytesParen ∷ bytes_before r (gap_tokens g rest)
inside_tokens s (behind_mark mark g) rest = token s (kinds.Marked mark) ∷ gap_tokens g rest
inside_tokens s (behind_skip g) rest = token s kinds.Skip ∷ gap_tokens g rest

abbrev pub begun_tokens : Begun → List Numbered → List Numbered
begun_tokens (top r g) rest = row_tokens r (gap_tokens g rest)
begun_tokens (inside b s i) rest = begun_tokens b (inside_tokens s i rest)

-- ---- which may stand

-- a datum may begin
abbrev pub TakesIn : Inside → Type 0
TakesIn (listing r g) = Unit {0}
TakesIn (behind_dot g w ps dot h) = Unit {0}
TakesIn (behind_tail g w ps dot h t i) = ⊥
TakesIn (vectoring r g) = Unit {0}
TakesIn (byting r g) = ⊥
TakesIn (behind_mark mark g) = Unit {0}
TakesIn (behind_skip g) = Unit {0}

abbrev pub Takes : Begun → Type 0
Takes (top r g) = Unit {0}
Takes (inside b s i) = TakesIn i

-- what is open is to be a datum, or is skipped
abbrev pub Stays : Inside → Begun → Type 0
Stays (listing r g) b = Takes b
Stays (behind_dot g w ps dot h) b = Takes b
Stays (behind_tail g w ps dot h t i) b = Takes b
Stays (vectoring r g) b = Takes b
Stays (byting r g) b = Takes b
Stays (behind_mark mark g) b = Takes b
Stays (behind_skip g) b = Unit {0}

-- how many are open with it, where so many were open before; bytevectors aren't counted
abbrev pub with_depth : Inside → ℕ → ℕ
with_depth (listing r g) n = n + 1
with_depth (behind_dot g w ps dot h) n = n + 1
with_depth (behind_tail g w ps dot h t i) n = n + 1
with_depth (vectoring r g) n = n + 1
with_depth (byting r g) n = n
with_depth (behind_mark mark g) n = n + 1
with_depth (behind_skip g) n = n + 1

abbrev pub open_depth : Begun → ℕ
open_depth (top r g) = 0
open_depth (inside b s i) = with_depth i (open_depth b)

abbrev pub row_depth : Row → ℕ
row_depth start = 0
row_depth (more r g w) = max (row_depth r) (max (gap_depth g) (depth w))

abbrev pub byte_row_depth : ByteRow → ℕ
byte_row_depth no_bytes = 0
byte_row_depth (one_byte r g s text fits) = max (byte_row_depth r) (gap_depth g)

abbrev pub inside_depth : Inside → ℕ
inside_depth (listing r g) = max (row_depth r) (gap_depth g)
inside_depth (behind_dot g w ps dot h) = max (gap_depth g) (max (depth w) (max (parts_depth ps) (gap_depth h)))
inside_depth (behind_tail g w ps dot h t i) = max (gap_depth g) (max (depth w) (max (parts_depth ps) (max (gap_depth h) (max (depth t) (gap_depth i)))))
inside_depth (vectoring r g) = max (row_depth r) (gap_depth g)
inside_depth (byting r g) = max (byte_row_depth r) (gap_depth g)
inside_depth (behind_mark mark g) = gap_depth g
inside_depth (behind_skip g) = gap_depth g

-- no more are open than may be, and a datum stands only where one may
abbrev pub IsSound : Begun → Type 0
IsSound (top r g) = max (row_depth r) (gap_depth g) ≤ max_open
IsSound (inside b s i) = IsSound b × Stays i b × (with_depth i (open_depth b) + inside_depth i ≤ max_open)
