-- Data as they are written (R7RS 7.1.2): by their tokens, with `#;` and the data that it skips between any two of them.
use Rattle.std.specs.Prelude.{◌≡◌, ◌+◌, ℕ, max, true, List, [], ◌∷◌}
use Rattle.scheme_model.specs.Kinds as kinds
use Rattle.scheme_model.specs.Kinds.{Leaf, Mark, TokenKind}
use Rattle.scheme_model.specs.Data.{Datum, atom, list, vector, bytes, none, part, row, tail_of, place_of, spelled, implied}
use Rattle.scheme_model.specs.Numbered.{Spot, Numbered, at, between, up_to, is_byte}

-- an atom; a list; a list with a dotted tail, `( first more . tail )`, with gaps; a vector; a bytevector; an abbreviation
mutual
  pub data Written : Type 0 where
    alone : Spot → Leaf → Written
    listed : Spot → Parts → Spot → Written
    tailed : Spot → Gap → Written → Parts → Spot → Gap → Written → Gap → Spot → Written
    vectored : Spot → Parts → Spot → Written
    byted : Spot → Bytes → Spot → Written
    abbreviated : Spot → Mark → Gap → Written → Written

  -- what is skipped between two tokens: `#;`, its datum, and so on
  pub data Gap : Type 0 where
    nothing : Gap
    skipped : Spot → Gap → Written → Gap → Gap

  -- data, each behind a gap, and a gap at the end
  pub data Parts : Type 0 where
    last : Gap → Parts
    next : Gap → Written → Parts → Parts

  -- numerals of bytes, each behind a gap, and a gap at the end
  pub data Bytes : Type 0 where
    last_byte : Gap → Bytes
    byte : Gap → Spot → (text : List ℕ) → is_byte 0 text ≡ true → Bytes → Bytes

abbrev pub token : Spot → TokenKind → Numbered
token s k = record { spot = s; kind = k }

-- the tokens, before those that follow
abbrev mutual
  pub written_tokens : Written → List Numbered → List Numbered
  written_tokens (alone s leaf) rest = token s (kinds.Atomic leaf) ∷ rest
  written_tokens (listed a ps b) rest = token a kinds.Paren ∷ parts_tokens ps (token b kinds.Close ∷ rest)
  written_tokens (tailed a g w ps dot h t i b) rest =
      token a kinds.Paren ∷ gap_tokens g (written_tokens w (parts_tokens ps (token dot kinds.Dot ∷ gap_tokens h (written_tokens t (gap_tokens i (token b kinds.Close ∷ rest))))))
  written_tokens (vectored a ps b) rest = token a kinds.VectorParen ∷ parts_tokens ps (token b kinds.Close ∷ rest)
  written_tokens (byted a bs b) rest = token a kinds.BytesParen ∷ bytes_tokens bs (token b kinds.Close ∷ rest)
  written_tokens (abbreviated s mark g w) rest = token s (kinds.Marked mark) ∷ gap_tokens g (written_tokens w rest)

  pub gap_tokens : Gap → List Numbered → List Numbered
  gap_tokens nothing rest = rest
  gap_tokens (skipped s g w h) rest = token s kinds.Skip ∷ gap_tokens g (written_tokens w (gap_tokens h rest))

  pub parts_tokens : Parts → List Numbered → List Numbered
  parts_tokens (last g) rest = gap_tokens g rest
  parts_tokens (next g w ps) rest = gap_tokens g (written_tokens w (parts_tokens ps rest))

  pub bytes_tokens : Bytes → List Numbered → List Numbered
  bytes_tokens (last_byte g) rest = gap_tokens g rest
  bytes_tokens (byte g s text fits bs) rest = gap_tokens g (token s (kinds.Atomic (kinds.Numeral text)) ∷ bytes_tokens bs rest)

abbrev pub bytes_meant : Bytes → List (List ℕ)
bytes_meant (last_byte g) = []
bytes_meant (byte g s text fits bs) = text ∷ bytes_meant bs

-- the data that are meant
abbrev mutual
  pub meant : Written → Datum
  meant (alone s leaf) = atom (at s) (spelled leaf)
  meant (listed a ps b) = list (between a b) (row (parts_meant ps) none)
  meant (tailed a g w ps dot h t i b) = list (between a b) (row (meant w ∷ parts_meant ps) (tail_of (meant t)))
  meant (vectored a ps b) = vector (between a b) (row (parts_meant ps) none)
  meant (byted a bs b) = bytes (between a b) (bytes_meant bs)
  meant (abbreviated s mark g w) = list (up_to s (place_of (meant w))) (part (atom (at s) (implied mark)) (part (meant w) none))

  pub parts_meant : Parts → List Datum
  parts_meant (last g) = []
  parts_meant (next g w ps) = meant w ∷ parts_meant ps

-- so many lists, vectors, abbreviations and `#;` may be open at once
abbrev pub max_open : ℕ
max_open = 400

-- how many are open at most
abbrev mutual
  pub depth : Written → ℕ
  depth (alone s leaf) = 0
  depth (listed a ps b) = parts_depth ps + 1
  depth (tailed a g w ps dot h t i b) = max (gap_depth g) (max (depth w) (max (parts_depth ps) (max (gap_depth h) (max (depth t) (gap_depth i))))) + 1
  depth (vectored a ps b) = parts_depth ps + 1
  depth (byted a bs b) = bytes_depth bs
  depth (abbreviated s mark g w) = max (gap_depth g) (depth w) + 1

  pub gap_depth : Gap → ℕ
  gap_depth nothing = 0
  gap_depth (skipped s g w h) = max (max (gap_depth g) (depth w) + 1) (gap_depth h)

  pub parts_depth : Parts → ℕ
  parts_depth (last g) = gap_depth g
  parts_depth (next g w ps) = max (gap_depth g) (max (depth w) (parts_depth ps))

  pub bytes_depth : Bytes → ℕ
  bytes_depth (last_byte g) = gap_depth g
  bytes_depth (byte g s text fits bs) = max (gap_depth g) (bytes_depth bs)
