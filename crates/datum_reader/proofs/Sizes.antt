-- The tree of a datum has at most twice as many nodes as the datum tokens.
use Rattle.std.proofs.Common.{◌≡◌, ℕ, suc, ◌+◌, ◌*◌, ◌≤◌, length, List, [], ◌∷◌, refl, ap, arith}
use Rattle.scheme_model.specs.Kinds as kinds
use Rattle.scheme_model.specs.Kinds.{Token}
use Rattle.scheme_model.specs.Data.{Datum, spelled, atom, list, vector, bytes, Data, none, row, tail_of}
use Rattle.scheme_model.specs.Numbered.{Numbered, at, number_from}
use Rattle.scheme_model.specs.Written.{Written, alone, listed, tailed, vectored, byted, abbreviated, Gap, nothing, skipped, Parts, last, next, Bytes, last_byte, byte, token, written_tokens, gap_tokens, parts_tokens, bytes_tokens, meant, parts_meant}
use Rattle.datum_reader.proofs.Measured.{datum_size, data_size, one_node}

-- a tail that is a list loses its node
tail_size : (d : Datum) → data_size (tail_of d) ≤ datum_size d
tail_size (atom p k) = omega arith
tail_size (list p ds) = omega arith
tail_size (vector p ds) = omega arith
tail_size (bytes p texts) = omega arith

mutual
  written_size : (w : Written) (rest : List Numbered) → datum_size (meant w) + 2 * length rest ≤ 2 * length (written_tokens w rest)
  written_size (alone s leaf) rest = omega (arith, one_node (at s) (spelled leaf))
  written_size (listed a ps b) rest = omega (arith, parts_size ps none (token b kinds.Close ∷ rest))
  written_size (tailed a g w ps dot h t i b) rest =
      let close = token b kinds.Close ∷ rest in
      let behind_dot = gap_tokens h (written_tokens t (gap_tokens i close)) in
      let behind_first = parts_tokens ps (token dot kinds.Dot ∷ behind_dot) in
      omega (
        arith,
        gap_length g (written_tokens w behind_first),
        written_size w behind_first,
        parts_size ps (tail_of (meant t)) (token dot kinds.Dot ∷ behind_dot),
        tail_size (meant t),
        gap_length h (written_tokens t (gap_tokens i close)),
        written_size t (gap_tokens i close),
        gap_length i close,
      )
  written_size (vectored a ps b) rest = omega (arith, parts_size ps none (token b kinds.Close ∷ rest))
  written_size (byted a bs b) rest = omega (arith, bytes_length bs (token b kinds.Close ∷ rest))
  written_size (abbreviated s mark g w) rest = omega (arith, gap_length g (written_tokens w rest), written_size w rest)

  gap_length : (g : Gap) (rest : List Numbered) → length rest ≤ length (gap_tokens g rest)
  gap_length nothing rest = omega arith
  gap_length (skipped s g w h) rest =
      omega (arith, gap_length g (written_tokens w (gap_tokens h rest)), written_size w (gap_tokens h rest), gap_length h rest)

  parts_size : (ps : Parts) (end : Data) (rest : List Numbered) → data_size (row (parts_meant ps) end) + 2 * length rest ≤ data_size end + 2 * length (parts_tokens ps rest)
  parts_size (last g) end rest = omega (arith, gap_length g rest)
  parts_size (next g w ps) end rest =
      omega (arith, gap_length g (written_tokens w (parts_tokens ps rest)), written_size w (parts_tokens ps rest), parts_size ps end rest)

  bytes_length : (bs : Bytes) (rest : List Numbered) → length rest ≤ length (bytes_tokens bs rest)
  bytes_length (last_byte g) rest = omega (arith, gap_length g rest)
  bytes_length (byte g s text fits bs) rest =
      omega (arith, gap_length g (token s (kinds.Atomic (kinds.Numeral text)) ∷ bytes_tokens bs rest), bytes_length bs rest)

-- tokens with their numbers are as many
numbered_length : (n : ℕ) (ts : List Token) → length (number_from n ts) ≡ length ts
numbered_length n [] = refl
numbered_length n (t ∷ ts) = ap suc (numbered_length (suc n) ts)

pub all_size : (ps : Parts) (ts : List Token) → parts_tokens ps [] ≡ number_from 0 ts → data_size (row (parts_meant ps) none) ≤ 2 * length ts
all_size ps ts e = omega (arith, parts_size ps none [], ap length e, numbered_length 0 ts)
