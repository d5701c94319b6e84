-- A datum that was read from a text has at most two nodes for each token of the text.
use Rattle.std.proofs.Common.{◌≡◌, ℕ, suc, ◌+◌, ◌*◌, ◌≤◌, List, [], ◌∷◌, length, refl, sym, ap, ◌∙◌, subst, arith}
use Rattle.scheme_model.specs.Kinds as kinds
use Rattle.scheme_model.specs.Kinds.{Mark}
use Rattle.scheme_model.specs.Data.{Datum, atom, list, vector, bytes, Data, none, row, tail_of, spelled, implied}
use Rattle.scheme_model.specs.Numbered.{Numbered, number_from}
use Rattle.scheme_model.specs.Written.{Written, alone, listed, tailed, vectored, byted, abbreviated, Gap, nothing, skipped, Parts, last, next, Bytes, last_byte, byte, token, written_tokens, gap_tokens, parts_tokens, bytes_tokens, meant, parts_meant}
use Rattle.program_laws.specs.Turns.{Each, datum_size}
use Rattle.program_laws.proofs.Declared.{row_size, nowhere, atom_one}

-- ---- rows

row_both : (ds : List Datum) (end : Data) → row_size (row ds end) ≡ row_size (row ds none) + row_size end
row_both [] end = omega arith
row_both (d ∷ ds) end = let e = row_both ds end in omega (arith, e)

tail_within : (d : Datum) → row_size (tail_of d) ≤ datum_size d
tail_within (atom p k) = omega arith
tail_within (list p ds) = omega arith
tail_within (vector p ds) = omega arith
tail_within (bytes p bs) = omega arith

each_within : (ds : List Datum) (n : ℕ) → row_size (row ds none) ≤ n → Each (λ (d : Datum). datum_size d ≤ n) ds
each_within [] n le = tt
each_within (d ∷ ds) n le = (omega (arith, le), each_within ds n (omega (arith, le)))

-- ---- tokens

mutual
  written_within : (w : Written) (rest : List Numbered) → datum_size (meant w) + 2 * length rest ≤ 2 * length (written_tokens w rest)
  written_within (alone s leaf) rest = let e = atom_one (λ (x : List ℕ). x) (spelled leaf) (nowhere s.number) in omega (arith, e)
  written_within (listed a ps b) rest = let e = parts_within ps (token b kinds.Close ∷ rest) in omega (arith, e)
  written_within (tailed a g w ps dot h t i b) rest =
      let r4 = token b kinds.Close ∷ rest in
      let r3 = gap_tokens i r4 in
      let r2 = written_tokens t r3 in
      let r1 = token dot kinds.Dot ∷ gap_tokens h r2 in
      let r0 = parts_tokens ps r1 in
      let a4 = gap_within i r4 in
      let a3 = written_within t r3 in
      let a2 = gap_within h r2 in
      let a1 = parts_within ps r1 in
      let a0 = written_within w r0 in
      let b0 = gap_within g (written_tokens w r0) in
      let c0 = row_both (parts_meant ps) (tail_of (meant t)) in
      let c1 = tail_within (meant t) in
      omega (arith, a4, a3, a2, a1, a0, b0, c0, c1)
  written_within (vectored a ps b) rest = let e = parts_within ps (token b kinds.Close ∷ rest) in omega (arith, e)
  written_within (byted a bs b) rest = let e = bytes_within bs (token b kinds.Close ∷ rest) in omega (arith, e)
  written_within (abbreviated s mark g w) rest =
      let e = written_within w rest in
      let g0 = gap_within g (written_tokens w rest) in
      let m = atom_one (λ (x : List ℕ). x) (implied mark) (nowhere s.number) in
      omega (arith, e, g0, m)

  gap_within : (g : Gap) (rest : List Numbered) → length rest ≤ length (gap_tokens g rest)
  gap_within nothing rest = omega arith
  gap_within (skipped s g w h) rest =
      let a = gap_within h rest in
      let b = written_within w (gap_tokens h rest) in
      let c = gap_within g (written_tokens w (gap_tokens h rest)) in
      omega (arith, a, b, c)

  parts_within : (ps : Parts) (rest : List Numbered) → row_size (row (parts_meant ps) none) + 2 * length rest ≤ 2 * length (parts_tokens ps rest)
  parts_within (last g) rest = let a = gap_within g rest in omega (arith, a)
  parts_within (next g w ps) rest =
      let a = parts_within ps rest in
      let b = written_within w (parts_tokens ps rest) in
      let c = gap_within g (written_tokens w (parts_tokens ps rest)) in
      omega (arith, a, b, c)

  bytes_within : (bs : Bytes) (rest : List Numbered) → length rest ≤ length (bytes_tokens bs rest)
  bytes_within (last_byte g) rest = gap_within g rest
  bytes_within (byte g s text fits bs) rest =
      let a = bytes_within bs rest in
      let c = gap_within g (token s (kinds.Atomic (kinds.Numeral text)) ∷ bytes_tokens bs rest) in
      omega (arith, a, c)

numbered_length : (n : ℕ) (ts : List kinds.Token) → length (number_from n ts) ≡ length ts
numbered_length n [] = refl
numbered_length n (t ∷ ts) = ap suc (numbered_length (suc n) ts)

pub data_within : (ps : Parts) (ts : List kinds.Token) (ds : List Datum) → parts_tokens ps [] ≡ number_from 0 ts → ds ≡ parts_meant ps → Each (λ (d : Datum). datum_size d ≤ 2 * length ts) ds
data_within ps ts ds formed means =
    let a = parts_within ps [] in
    let b : length (parts_tokens ps []) ≡ length ts = ap length formed ∙ numbered_length 0 ts in
    subst (λ (xs : List Datum). Each (λ (d : Datum). datum_size d ≤ 2 * length ts) xs) (sym means) (each_within (parts_meant ps) (2 * length ts) (omega (arith, a, b)))
