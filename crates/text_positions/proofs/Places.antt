-- Offsets and positions by the starts of lines.
use Rattle.std.proofs.Common.{◌≡◌, ℕ, zero, suc, ◌+◌, ◌-◌, ◌<◌, ◌≤◌, Bool, true, false, cond, ltb, leb, List, [], ◌∷◌, length, get_or, drop, length-drop, slice_get, Some, refl, sym, subst, ap, ◌∙◌, arith}
use Rattle.std.proofs.lemmas.Bool.{lt-ltb, le-ltb, leb-true, leb-false}
use Rattle.std.proofs.lemmas.List.{get_or_read}
use Rattle.std.proofs.lemmas.List.Sums.{sum_by-cons}
use Rattle.std.proofs.lemmas.Str.{encodes-chars, length-le-encodes}
use Rattle.std.specs.List.{sum_by}
use Rattle.std.specs.List.Sorted.{IsNonDecreasingBy, IsPartitionPoint}
use Rattle.std.specs.Str.{chars, IsUtf8}
use Rattle.std.specs.Char.{len_utf8}
use Rattle.ls_base.specs.declared.encoding.Encoding.{Encoding}
use Rattle.ls_base.specs.declared.places.Pos.{Pos}
use Rattle.ls_base.specs.Positions.{Line, lines_of, full_bytes, byte_count, bytes_within, units_of, units_within, offset_in, offset_of, position_in, position_of, below}
use Rattle.text_positions.specs.Lines.{starts_from, line_starts}
use Rattle.text_positions.specs.Walks.{first_chars, first_line, ends_behind, IsLineAt}
use Rattle.text_positions.proofs.LinesOf.{first_bytes, grow, length-lines_of}
use Rattle.text_positions.proofs.LineStarts.{starts_from-cons}
use Rattle.text_positions.proofs.Cuts.{length-starts_from, length-encodes, IsLineStart, line_start}

-- an offset in a line that is there
offset_in-start : (units : ℕ → ℕ) (lines : List Line) (k n at : ℕ) → k < length lines → at + offset_in units lines k n ≡ get_or (starts_from at lines) k 0 + bytes_within units n (first_chars (drop k lines))
offset_in-start units [] k n at h = absurd (omega arith)
offset_in-start units (l ∷ lines) zero n at h = refl
offset_in-start units (l ∷ lines) (suc k) n at h = omega (arith, offset_in-start units lines k n (at + full_bytes l) (omega arith))

-- and past the last line
offset_in-past : (units : ℕ → ℕ) (lines : List Line) (k n : ℕ) → length lines ≤ k → offset_in units lines k n ≡ sum_by full_bytes lines
offset_in-past units [] k n h = refl
offset_in-past units (l ∷ lines) zero n h = absurd (omega arith)
offset_in-past units (l ∷ lines) (suc k) n h = ap (λ m. full_bytes l + m) (offset_in-past units lines k n (omega arith)) ∙ sym (sum_by-cons full_bytes l lines)

-- the bytes of all lines, from those of the first and of the others
sum_first : (lines : List Line) → sum_by full_bytes lines ≡ first_bytes lines + sum_by full_bytes (drop 1 lines)
sum_first [] = refl
sum_first (l ∷ lines) = sum_by-cons full_bytes l lines

sum_grown : (b : Bool) (lines : List Line) → cond b 0 (first_bytes lines) + sum_by full_bytes (cond b lines (drop 1 lines)) ≡ sum_by full_bytes lines
sum_grown true lines = omega arith
sum_grown false lines = sym (sum_first lines)

-- they are those of the text
sum_lines : (cs : List ℕ) → sum_by full_bytes (lines_of cs) ≡ byte_count cs
sum_lines [] = refl
sum_lines (c ∷ cs) =
    let g = grow c cs in
    omega (arith, sum_first (lines_of (c ∷ cs)), g.first, ap (sum_by full_bytes) g.rest, sum_grown (ends_behind c cs) (lines_of cs), sum_lines cs, sum_by-cons len_utf8 c cs)

-- a position in a line that is there
pub offset_of-start : (e : Encoding) (text : List ℕ) (pos : Pos) → IsUtf8 text → pos.line < length (line_starts text) → offset_of e text pos ≡ get_or (line_starts text) pos.line 0 + bytes_within (units_of e) pos.character (first_line (drop (get_or (line_starts text) pos.line 0) text))
offset_of-start e text pos u h =
    let there : IsLineStart text pos.line (get_or (line_starts text) pos.line 0) = line_start text pos.line u h in
    let here = offset_in-start (units_of e) (lines_of (chars text)) pos.line pos.character 0 (omega (arith, length-starts_from (lines_of (chars text)) 0)) in
    omega (arith, here, ap (λ lines. bytes_within (units_of e) pos.character (first_chars lines)) there.lines)

-- a line past the last
pub offset_of-past : (e : Encoding) (text : List ℕ) (pos : Pos) → IsUtf8 text → length (line_starts text) ≤ pos.line → offset_of e text pos ≡ length text
offset_of-past e text pos u h =
    offset_in-past (units_of e) (lines_of (chars text)) pos.line pos.character (omega (arith, length-starts_from (lines_of (chars text)) 0))
    ∙ sum_lines (chars text) ∙ sym (length-encodes (chars text)) ∙ ap length (encodes-chars text u)

-- no line begins before the first
starts_from-ge : (lines : List Line) (at k d : ℕ) → k < length lines → at ≤ get_or (starts_from at lines) k d
starts_from-ge [] at k d h = absurd (omega arith)
starts_from-ge (l ∷ lines) at zero d h = omega arith
starts_from-ge (l ∷ lines) at (suc k) d h = omega (arith, starts_from-ge lines (at + full_bytes l) k d (omega arith))

starts_rise : (lines : List Line) (at i j d : ℕ) → i ≤ j → j < length lines → get_or (starts_from at lines) i d ≤ get_or (starts_from at lines) j d
starts_rise [] at i j d le h = absurd (omega arith)
starts_rise (l ∷ lines) at zero j d le h = starts_from-ge (l ∷ lines) at j d h
starts_rise (l ∷ lines) at (suc i) zero d le h = absurd (omega arith)
starts_rise (l ∷ lines) at (suc i) (suc j) d le h = starts_rise lines (at + full_bytes l) i j d (omega arith) (omega arith)

-- the line starts of a text stand in order, as a binary search asks
pub line_starts-rise : (text : List ℕ) → IsNonDecreasingBy (λ start. start) (line_starts text)
line_starts-rise text i j d le h = starts_rise (lines_of (chars text)) 0 i j d le (omega (arith, length-starts_from (lines_of (chars text)) 0))

-- the position there, where the lines begin at an offset
position_in-start : (units : ℕ → ℕ) (lines : List Line) (at offset k : ℕ) → at ≤ offset → IsLineAt (starts_from at lines) offset k → position_in units lines (offset - at) ≡ record { line = k; character = units_within units (offset - get_or (starts_from at lines) k 0) (first_chars (drop k lines)) }
position_in-start units [] at offset k le h = absurd (omega (arith, h.there))
position_in-start units (l ∷ []) at offset zero le h = refl
position_in-start units (l ∷ []) at offset (suc k) le h = absurd (omega (arith, h.there))
position_in-start units (l ∷ m ∷ lines) at offset zero le h =
    let first : ltb (offset - at) (full_bytes l) ≡ true = lt-ltb _ _ (omega (arith, h.last (omega arith))) in
    rw first refl
position_in-start units (l ∷ m ∷ lines) at offset (suc k) le h =
    let begun : at + full_bytes l ≤ get_or (starts_from (at + full_bytes l) (m ∷ lines)) k 0 = starts_from-ge (m ∷ lines) (at + full_bytes l) k 0 (omega (arith, h.there, length-starts_from (m ∷ lines) (at + full_bytes l))) in
    let further : ltb (offset - at) (full_bytes l) ≡ false = le-ltb _ _ (omega (arith, h.begun)) in
    let later : IsLineAt (starts_from (at + full_bytes l) (m ∷ lines)) offset k = record { there = omega (arith, h.there); begun = h.begun; last = λ n. h.last (omega (arith, n)) } in
    let left : offset - at - full_bytes l ≡ offset - (at + full_bytes l) = omega arith in
    let place : Pos = record { line = k; character = units_within units (offset - get_or (starts_from (at + full_bytes l) (m ∷ lines)) k 0) (first_chars (drop k (m ∷ lines))) } in
    ap (λ b. cond b (record { line = 0; character = units_within units (offset - at) l.chars }) (below (position_in units (m ∷ lines) (offset - at - full_bytes l)))) further
    ∙ ap (λ n. below (position_in units (m ∷ lines) n)) left
    ∙ ap below (position_in-start units (m ∷ lines) (at + full_bytes l) offset k (omega (arith, h.begun)) later)
    ∙ ap (λ (n : ℕ). record place { line = n }) (omega arith)

-- a position by the last line that begins at an offset or before it
pub position_of-start : (e : Encoding) (text : List ℕ) (offset k : ℕ) → IsUtf8 text → IsLineAt (line_starts text) offset k → position_of e text offset ≡ record { line = k; character = units_within (units_of e) (offset - get_or (line_starts text) k 0) (first_line (drop (get_or (line_starts text) k 0) text)) }
position_of-start e text offset k u h =
    let there : IsLineStart text k (get_or (line_starts text) k 0) = line_start text k u h.there in
    let place : List Line → Pos = λ lines. record { line = k; character = units_within (units_of e) (offset - get_or (line_starts text) k 0) (first_chars lines) } in
    ap (position_in (units_of e) (lines_of (chars text))) (omega arith) ∙ position_in-start (units_of e) (lines_of (chars text)) 0 offset k (omega arith) h ∙ ap place (sym there.lines)

few_left : (b : Bool) (lines : List Line) → length (cond b lines (drop 1 lines)) ≤ length lines
few_left true lines = omega arith
few_left false lines = omega (arith, length-drop 1 lines)

few_lines : (cs : List ℕ) → length (lines_of cs) ≤ length cs + 1
few_lines [] = omega arith
few_lines (c ∷ cs) =
    let g = grow c cs in
    omega (arith, ap length g.rest, length-drop 1 (lines_of (c ∷ cs)), few_left (ends_behind c cs) (lines_of cs), few_lines cs)

-- what a search by halves finds, one behind that line
pub searched : (starts : List ℕ) (offset i : ℕ) → slice_get starts 0 ≡ Some 0 → IsPartitionPoint (λ y. leb y offset ≡ true) (λ y. leb y offset ≡ false) starts i → i ≤ length starts → (0 < i) × IsLineAt starts offset (i - 1)
searched [] offset i first parted le = absurd (cc first)
searched (x ∷ starts) offset zero first parted le =
    let zero : x ≡ 0 = cc first in
    absurd (omega (arith, leb-false x offset (parted.1 0 0 (omega arith) (omega arith))))
searched (x ∷ starts) offset (suc i) first parted le =
    let here : suc i - 1 ≡ i = omega arith in (
      omega arith,
      subst (IsLineAt (x ∷ starts) offset) (sym here) (record {
        there = omega arith;
        begun = leb-true _ _ (parted.0 i 0 (omega arith) (omega arith));
        last = λ more. leb-false _ _ (parted.1 (suc i) 0 (omega arith) more);
      }),
    )

-- a text has no more lines than bytes and one
pub length-line_starts : (text : List ℕ) → IsUtf8 text → length (line_starts text) ≤ length text + 1
length-line_starts text u =
    omega (arith, length-starts_from (lines_of (chars text)) 0, few_lines (chars text), length-le-encodes (chars text), ap length (encodes-chars text u))

-- the first line begins at 0
pub first_start : (text : List ℕ) → slice_get (line_starts text) 0 ≡ Some 0
first_start text = ap (λ xs. slice_get xs 0) (starts_from-cons 0 (lines_of (chars text)) (length-lines_of (chars text)))

-- a start that is read from the table
pub start_read : (items text : List ℕ) (k n : ℕ) → items ≡ line_starts text → k < length items → n ≡ get_or items k n → n ≡ get_or (line_starts text) k 0
start_read items text k n is there read = get_or_read items k n there read 0 ∙ ap (λ xs. get_or xs k 0) is
