-- Data are written by the tokens that there are now as they were by those before.
use Rattle.std.proofs.Common.{◌≡◌, ℕ, zero, suc, ◌+◌, ◌≤◌, max, arith, List, [], ◌∷◌, map, Bool, refl, sym, ap, ◌∙◌, subst, Option, None}
use Rattle.scheme_model.specs.Kinds as kinds
use Rattle.scheme_model.specs.Kinds.{Leaf, Mark, TokenKind, Token}
use Rattle.scheme_model.specs.Data.{Datum, atom, list, vector, bytes, Data, none, part, row, tail_of, place_of, implied}
use Rattle.scheme_model.specs.Numbered.{Spot, Numbered, number_from, at, between, up_to}
use Rattle.scheme_model.specs.Faults.{Stop}
use Rattle.scheme_model.specs.Written.{Written, alone, listed, tailed, vectored, byted, abbreviated, Gap, nothing, skipped, Parts, last, next, Bytes, last_byte, byte, token, written_tokens, gap_tokens, parts_tokens, bytes_tokens, bytes_meant, meant, parts_meant, max_open, depth, gap_depth, parts_depth, bytes_depth}
use Rattle.scheme_model.specs.Stopping.{IsReading}
use Rattle.text_edits.specs.Renamed.{Now, leaf_with, place_now, datum_now, data_now}

-- ---- tokens as they are now

abbrev pub kind_with : Option (List ℕ) → Bool → TokenKind → TokenKind
kind_with new in_bars kinds.Paren = kinds.Paren
kind_with new in_bars kinds.VectorParen = kinds.VectorParen
kind_with new in_bars kinds.BytesParen = kinds.BytesParen
kind_with new in_bars kinds.Close = kinds.Close
kind_with new in_bars kinds.Dot = kinds.Dot
kind_with new in_bars kinds.Skip = kinds.Skip
kind_with new in_bars (kinds.Marked mark) = kinds.Marked mark
kind_with new in_bars (kinds.Atomic leaf) = kinds.Atomic (leaf_with new in_bars leaf)

abbrev spot_now : Now → Spot → Spot
spot_now now s = record { number = s.number; start = now.start s.number; end = now.end s.number }

abbrev numbered_now : Now → Numbered → Numbered
numbered_now now t = record { spot = spot_now now t.spot; kind = kind_with (now.new t.spot.number) (now.bars t.spot.number) t.kind }

-- ---- data as they are written now

abbrev mutual
  written_now : Now → Written → Written
  written_now now (alone s leaf) = alone (spot_now now s) (leaf_with (now.new s.number) (now.bars s.number) leaf)
  written_now now (listed a ps b) = listed (spot_now now a) (parts_now now ps) (spot_now now b)
  written_now now (tailed a g w ps dot h t i b) =
      tailed (spot_now now a) (gap_now now g) (written_now now w) (parts_now now ps) (spot_now now dot) (gap_now now h) (written_now now t) (gap_now now i) (spot_now now b)
  written_now now (vectored a ps b) = vectored (spot_now now a) (parts_now now ps) (spot_now now b)
  written_now now (byted a bs b) = byted (spot_now now a) (bytes_now now bs) (spot_now now b)
  written_now now (abbreviated s mark g w) = abbreviated (spot_now now s) mark (gap_now now g) (written_now now w)

  gap_now : Now → Gap → Gap
  gap_now now nothing = nothing
  gap_now now (skipped s g w h) = skipped (spot_now now s) (gap_now now g) (written_now now w) (gap_now now h)

  parts_now : Now → Parts → Parts
  parts_now now (last g) = last (gap_now now g)
  parts_now now (next g w ps) = next (gap_now now g) (written_now now w) (parts_now now ps)

  bytes_now : Now → Bytes → Bytes
  bytes_now now (last_byte g) = last_byte (gap_now now g)
  bytes_now now (byte g s text fits bs) = byte (gap_now now g) (spot_now now s) text fits (bytes_now now bs)

-- ---- their tokens

abbrev all_now : Now → List Numbered → List Numbered
all_now now ts = map (numbered_now now) ts

mutual
  written_told : (now : Now) (w : Written) (rest : List Numbered) → written_tokens (written_now now w) (all_now now rest) ≡ all_now now (written_tokens w rest)
  written_told now (alone s leaf) rest = refl
  written_told now (listed a ps b) rest = ap (λ (q : List Numbered). token (spot_now now a) kinds.Paren ∷ q) (parts_told now ps (token b kinds.Close ∷ rest))
  written_told now (tailed a g w ps dot h t i b) rest =
      let r1 = token b kinds.Close ∷ rest in
      let r2 = gap_tokens i r1 in
      let r3 = written_tokens t r2 in
      let r4 = gap_tokens h r3 in
      let r5 = token dot kinds.Dot ∷ r4 in
      let r6 = parts_tokens ps r5 in
      let r7 = written_tokens w r6 in
      let e2 : gap_tokens (gap_now now i) (all_now now r1) ≡ all_now now r2 = gap_told now i r1 in
      let e3 : written_tokens (written_now now t) (gap_tokens (gap_now now i) (all_now now r1)) ≡ all_now now r3 = ap (written_tokens (written_now now t)) e2 ∙ written_told now t r2 in
      let e4 : gap_tokens (gap_now now h) (written_tokens (written_now now t) (gap_tokens (gap_now now i) (all_now now r1))) ≡ all_now now r4 = ap (gap_tokens (gap_now now h)) e3 ∙ gap_told now h r3 in
      let e6 : parts_tokens (parts_now now ps) (token (spot_now now dot) kinds.Dot ∷ gap_tokens (gap_now now h) (written_tokens (written_now now t) (gap_tokens (gap_now now i) (all_now now r1)))) ≡ all_now now r6 =
      ap (λ (q : List Numbered). parts_tokens (parts_now now ps) (token (spot_now now dot) kinds.Dot ∷ q)) e4 ∙ parts_told now ps r5 in
      ap (λ (q : List Numbered). token (spot_now now a) kinds.Paren ∷ q) (ap (λ (q : List Numbered). gap_tokens (gap_now now g) (written_tokens (written_now now w) q)) e6 ∙ ap (gap_tokens (gap_now now g)) (written_told now w r6) ∙ gap_told now g r7)
  written_told now (vectored a ps b) rest = ap (λ (q : List Numbered). token (spot_now now a) kinds.VectorParen ∷ q) (parts_told now ps (token b kinds.Close ∷ rest))
  written_told now (byted a bs b) rest = ap (λ (q : List Numbered). token (spot_now now a) kinds.BytesParen ∷ q) (bytes_told now bs (token b kinds.Close ∷ rest))
  written_told now (abbreviated s mark g w) rest =
      ap (λ (q : List Numbered). token (spot_now now s) (kinds.Marked mark) ∷ q) (ap (gap_tokens (gap_now now g)) (written_told now w rest) ∙ gap_told now g (written_tokens w rest))

  gap_told : (now : Now) (g : Gap) (rest : List Numbered) → gap_tokens (gap_now now g) (all_now now rest) ≡ all_now now (gap_tokens g rest)
  gap_told now nothing rest = refl
  gap_told now (skipped s g w h) rest =
      ap (λ (q : List Numbered). token (spot_now now s) kinds.Skip ∷ q)
      (ap (λ (q : List Numbered). gap_tokens (gap_now now g) (written_tokens (written_now now w) q)) (gap_told now h rest)
      ∙ ap (gap_tokens (gap_now now g)) (written_told now w (gap_tokens h rest)) ∙ gap_told now g (written_tokens w (gap_tokens h rest)))

  parts_told : (now : Now) (ps : Parts) (rest : List Numbered) → parts_tokens (parts_now now ps) (all_now now rest) ≡ all_now now (parts_tokens ps rest)
  parts_told now (last g) rest = gap_told now g rest
  parts_told now (next g w ps) rest =
      ap (λ (q : List Numbered). gap_tokens (gap_now now g) (written_tokens (written_now now w) q)) (parts_told now ps rest)
      ∙ ap (gap_tokens (gap_now now g)) (written_told now w (parts_tokens ps rest)) ∙ gap_told now g (written_tokens w (parts_tokens ps rest))

  bytes_told : (now : Now) (bs : Bytes) (rest : List Numbered) → bytes_tokens (bytes_now now bs) (all_now now rest) ≡ all_now now (bytes_tokens bs rest)
  bytes_told now (last_byte g) rest = gap_told now g rest
  bytes_told now (byte g s text fits bs) rest =
      ap (λ (q : List Numbered). gap_tokens (gap_now now g) (token (spot_now now s) (kinds.Atomic (kinds.Numeral text)) ∷ q)) (bytes_told now bs rest)
      ∙ gap_told now g (token s (kinds.Atomic (kinds.Numeral text)) ∷ bytes_tokens bs rest)

-- ---- how many are open

mutual
  depth_told : (now : Now) (w : Written) → depth (written_now now w) ≡ depth w
  depth_told now (alone s leaf) = refl
  depth_told now (listed a ps b) = ap (λ (n : ℕ). n + 1) (parts_depth_told now ps)
  depth_told now (tailed a g w ps dot h t i b) = λ j.
      max (gap_depth_told now g j) (max (depth_told now w j) (max (parts_depth_told now ps j) (max (gap_depth_told now h j) (max (depth_told now t j) (gap_depth_told now i j))))) + 1
  depth_told now (vectored a ps b) = ap (λ (n : ℕ). n + 1) (parts_depth_told now ps)
  depth_told now (byted a bs b) = bytes_depth_told now bs
  depth_told now (abbreviated s mark g w) = λ j. max (gap_depth_told now g j) (depth_told now w j) + 1

  gap_depth_told : (now : Now) (g : Gap) → gap_depth (gap_now now g) ≡ gap_depth g
  gap_depth_told now nothing = refl
  gap_depth_told now (skipped s g w h) = λ j. max (max (gap_depth_told now g j) (depth_told now w j) + 1) (gap_depth_told now h j)

  parts_depth_told : (now : Now) (ps : Parts) → parts_depth (parts_now now ps) ≡ parts_depth ps
  parts_depth_told now (last g) = gap_depth_told now g
  parts_depth_told now (next g w ps) = λ j. max (gap_depth_told now g j) (max (depth_told now w j) (parts_depth_told now ps j))

  bytes_depth_told : (now : Now) (bs : Bytes) → bytes_depth (bytes_now now bs) ≡ bytes_depth bs
  bytes_depth_told now (last_byte g) = gap_depth_told now g
  bytes_depth_told now (byte g s text fits bs) = λ j. max (gap_depth_told now g j) (bytes_depth_told now bs j)

-- ---- what they mean

place_told : (now : Now) (d : Datum) → place_of (datum_now now d) ≡ place_now now (place_of d)
place_told now (atom p a) = refl
place_told now (list p ds) = refl
place_told now (vector p ds) = refl
place_told now (bytes p bs) = refl

tail_told : (now : Now) (d : Datum) → tail_of (datum_now now d) ≡ data_now now (tail_of d)
tail_told now (atom p a) = refl
tail_told now (list p ds) = refl
tail_told now (vector p ds) = refl
tail_told now (bytes p bs) = refl

row_told : (now : Now) (ds : List Datum) (end : Data) → row (map (datum_now now) ds) (data_now now end) ≡ data_now now (row ds end)
row_told now [] end = refl
row_told now (d ∷ ds) end = ap (part (datum_now now d)) (row_told now ds end)

numerals_told : (now : Now) (bs : Bytes) → bytes_meant (bytes_now now bs) ≡ bytes_meant bs
numerals_told now (last_byte g) = refl
numerals_told now (byte g s text fits bs) = ap (λ (q : List (List ℕ)). text ∷ q) (numerals_told now bs)

mutual
  meant_told : (now : Now) (w : Written) → meant (written_now now w) ≡ datum_now now (meant w)
  meant_told now (alone s leaf) = refl
  meant_told now (listed a ps b) =
      ap (λ (q : List Datum). list (between (spot_now now a) (spot_now now b)) (row q none)) (parts_meant_told now ps)
      ∙ ap (list (between (spot_now now a) (spot_now now b))) (row_told now (parts_meant ps) none)
  meant_told now (tailed a g w ps dot h t i b) =
      let place = between (spot_now now a) (spot_now now b) in
      (λ j. list place (row (meant_told now w j ∷ parts_meant_told now ps j) (tail_of (meant_told now t j))))
      ∙ ap (λ (q : Data). list place (row (datum_now now (meant w) ∷ map (datum_now now) (parts_meant ps)) q)) (tail_told now (meant t))
      ∙ ap (list place) (row_told now (meant w ∷ parts_meant ps) (tail_of (meant t)))
  meant_told now (vectored a ps b) =
      ap (λ (q : List Datum). vector (between (spot_now now a) (spot_now now b)) (row q none)) (parts_meant_told now ps)
      ∙ ap (vector (between (spot_now now a) (spot_now now b))) (row_told now (parts_meant ps) none)
  meant_told now (byted a bs b) = ap (bytes (between (spot_now now a) (spot_now now b))) (numerals_told now bs)
  meant_told now (abbreviated s mark g w) =
      ap (λ (d : Datum). list (up_to (spot_now now s) (place_of d)) (part (atom (at (spot_now now s)) (implied mark)) (part d none))) (meant_told now w)
      ∙ ap (λ (p : _). list (up_to (spot_now now s) p) (part (atom (at (spot_now now s)) (implied mark)) (part (datum_now now (meant w)) none))) (place_told now (meant w))

  parts_meant_told : (now : Now) (ps : Parts) → parts_meant (parts_now now ps) ≡ map (datum_now now) (parts_meant ps)
  parts_meant_told now (last g) = refl
  parts_meant_told now (next g w ps) = λ j. meant_told now w j ∷ parts_meant_told now ps j

-- ---- readings

-- a text whose tokens are those of another as they are now has its data as they are now
pub reading_now : (now : Now) (reads others : List Token → Option Stop → Type 0) (ds : List Datum) (us : List Token) → (r : IsReading reads ds) → others us None →
    number_from 0 us ≡ all_now now (number_from 0 r.tokens) → IsReading others (map (datum_now now) ds)
reading_now now reads others ds us r told same = record {
  tokens = us;
  written = parts_now now r.written;
  spelled = told;
  formed = parts_told now r.written [] ∙ ap (all_now now) r.formed ∙ sym same;
  shallow = subst (λ (n : ℕ). n ≤ max_open) (sym (parts_depth_told now r.written)) r.shallow;
  means = ap (map (datum_now now)) r.means ∙ sym (parts_meant_told now r.written);
}

-- ---- tokens by their numbers

-- where a token begins and ends
abbrev pub start_at : List Token → ℕ → ℕ
start_at [] n = 0
start_at (t ∷ ts) zero = t.start
start_at (t ∷ ts) (suc n) = start_at ts n

abbrev pub end_at : List Token → ℕ → ℕ
end_at [] n = 0
end_at (t ∷ ts) zero = t.end
end_at (t ∷ ts) (suc n) = end_at ts n

-- what is told of the tokens from a number on
Tells : Now → ℕ → List Token → Type 0
Tells now n us = (i : ℕ) → (now.start (n + i) ≡ start_at us i) × (now.end (n + i) ≡ end_at us i)

-- kinds alike but for the new names, from a number on
abbrev pub AreAlike : (ℕ → Option (List ℕ)) → (ℕ → Bool) → ℕ → List Token → List Token → Type 0
AreAlike new bars n [] [] = Unit {0}
AreAlike new bars n [] (u ∷ us) = ⊥
AreAlike new bars n (t ∷ ts) [] = ⊥
AreAlike new bars n (t ∷ ts) (u ∷ us) = (kind_with (new n) (bars n) t.kind ≡ u.kind) × AreAlike new bars (suc n) ts us

told_from : (now : Now) (n : ℕ) (ts us : List Token) → Tells now n us → AreAlike now.new now.bars n ts us → number_from n us ≡ all_now now (number_from n ts)
unfolding Tells
told_from now n [] [] h a = refl
told_from now n [] (u ∷ us) h a = absurd a
told_from now n (t ∷ ts) [] h a = absurd a
told_from now n (t ∷ ts) (u ∷ us) h a =
    let here : n + 0 ≡ n = omega arith in
    let first = h 0 in
    let start : u.start ≡ now.start n = sym first.0 ∙ ap now.start here in
    let end : u.end ≡ now.end n = sym first.1 ∙ ap now.end here in
    let kind : u.kind ≡ kind_with (now.new n) (now.bars n) t.kind = sym a.0 in
    (λ j. record { spot = record { number = n; start = start j; end = end j }; kind = kind j } ∷ told_from now (suc n) ts us (behind now n u us h) a.1 j)
  where
    behind : (now : Now) (n : ℕ) (u : Token) (us : List Token) → Tells now n (u ∷ us) → Tells now (suc n) us
    behind now n u us h i =
        let e : suc n + i ≡ n + suc i = omega arith in
        let f = h (suc i) in
        (ap now.start e ∙ f.0, ap now.end e ∙ f.1)

-- with new names, where the tokens stand
abbrev pub now_of : (ℕ → Option (List ℕ)) → (ℕ → Bool) → List Token → Now
now_of new bars us = record { start = start_at us; end = end_at us; new = new; bars = bars }

tells_itself : (new : ℕ → Option (List ℕ)) (bars : ℕ → Bool) (us : List Token) → Tells (now_of new bars us) 0 us
unfolding Tells
tells_itself new bars us i = let e : 0 + i ≡ i = omega arith in (ap (start_at us) e, ap (end_at us) e)

pub told_now : (new : ℕ → Option (List ℕ)) (bars : ℕ → Bool) (ts us : List Token) → AreAlike new bars 0 ts us → number_from 0 us ≡ all_now (now_of new bars us) (number_from 0 ts)
told_now new bars ts us a = told_from (now_of new bars us) 0 ts us (tells_itself new bars us) a
