-- A text is cut where a line begins: what is left has the lines that are left.
use Rattle.std.proofs.Common.{◌≡◌, ℕ, zero, suc, ◌+◌, ◌<◌, Bool, true, false, cond, List, [], ◌∷◌, ◌++◌, length, get_or, drop, length-append, length-drop, refl, sym, ap, ◌∙◌, subst, arith}
use Rattle.std.proofs.lemmas.List.{drop_at}
use Rattle.std.proofs.lemmas.List.Sums.{sum_by-cons}
use Rattle.std.proofs.lemmas.Str.{length-encode, encodes-chars, scalars-chars, encodes-append, chars-encodes, IsCharBoundary-at_seam}
use Rattle.std.specs.Str.{chars, IsUtf8, IsCharBoundary, encode_utf8_all as encodes, all_scalars as scalars}
use Rattle.std.specs.Char.{len_utf8, encode_utf8}
use Rattle.ls_base.specs.Positions.{Line, lines_of, byte_count, full_bytes}
use Rattle.text_positions.specs.Lines.{starts_from, line_starts}
use Rattle.text_positions.specs.Walks.{ends_behind}
use Rattle.text_positions.proofs.LinesOf.{grow, length-lines_of}
use Rattle.text_positions.proofs.LineStarts.{later_starts, later_starts_more, starts_from-cons}

pub length-starts_from : (lines : List Line) (at : ℕ) → length (starts_from at lines) ≡ length lines
length-starts_from [] at = refl
length-starts_from (l ∷ lines) at = ap suc (length-starts_from lines (at + full_bytes l))

pub length-encodes : (cs : List ℕ) → length (encodes cs) ≡ byte_count cs
length-encodes [] = refl
length-encodes (c ∷ cs) = length-append (encode_utf8 c) (encodes cs) ∙ ap (λ n. n + length (encodes cs)) (length-encode c) ∙ ap (λ n. len_utf8 c + n) (length-encodes cs) ∙ sym (sum_by-cons len_utf8 c cs)

drop_suc : {A : Type 0} (k : ℕ) (xs : List A) → drop (suc k) xs ≡ drop k (drop 1 xs)
drop_suc zero [] = refl
drop_suc (suc k) [] = refl
drop_suc k (x ∷ xs) = refl

-- the characters cs up to line k, and from it on, where the first line begins at an offset
pub record Cut (cs : List ℕ) (k at : ℕ) : Type 0 where
  pub front : List ℕ
  pub back : List ℕ
  pub whole : cs ≡ front ++ back
  pub rest : lines_of back ≡ drop k (lines_of cs)
  pub start : get_or (starts_from at (lines_of cs)) k 0 ≡ at + byte_count front

-- behind c a line ends
cut_ended : (c : ℕ) (cs : List ℕ) (k at : ℕ) → ends_behind c cs ≡ true → Cut cs k (at + len_utf8 c) → Cut (c ∷ cs) (suc k) at
cut_ended c cs k at e later =
    let g = grow c cs in
    record {
      front = c ∷ later.front;
      back = later.back;
      whole = ap (λ xs. c ∷ xs) later.whole;
      rest = later.rest ∙ ap (drop k) (sym (g.rest ∙ ap (λ b. cond b (lines_of cs) (drop 1 (lines_of cs))) e)) ∙ sym (drop_suc k (lines_of (c ∷ cs)));
      start = ap (λ xs. get_or xs (suc k) 0) (starts_from-cons at (lines_of (c ∷ cs)) (length-lines_of (c ∷ cs)))
          ∙ ap (λ xs. get_or xs k 0) (later_starts_more at c cs ∙ ap (λ b. cond b ((at + len_utf8 c) ∷ later_starts (at + len_utf8 c) (lines_of cs)) (later_starts (at + len_utf8 c) (lines_of cs))) e ∙ sym (starts_from-cons (at + len_utf8 c) (lines_of cs) (length-lines_of cs)))
          ∙ omega (arith, later.start, sum_by-cons len_utf8 c later.front);
    }

-- or it doesn't
cut_longer : (c : ℕ) (cs : List ℕ) (k at : ℕ) → ends_behind c cs ≡ false → Cut cs (suc k) (at + len_utf8 c) → Cut (c ∷ cs) (suc k) at
cut_longer c cs k at e later =
    let g = grow c cs in
    record {
      front = c ∷ later.front;
      back = later.back;
      whole = ap (λ xs. c ∷ xs) later.whole;
      rest = later.rest ∙ drop_suc k (lines_of cs) ∙ ap (drop k) (sym (g.rest ∙ ap (λ b. cond b (lines_of cs) (drop 1 (lines_of cs))) e)) ∙ sym (drop_suc k (lines_of (c ∷ cs)));
      start = ap (λ xs. get_or xs (suc k) 0) (starts_from-cons at (lines_of (c ∷ cs)) (length-lines_of (c ∷ cs)))
          ∙ ap (λ xs. get_or xs k 0) (later_starts_more at c cs ∙ ap (λ b. cond b ((at + len_utf8 c) ∷ later_starts (at + len_utf8 c) (lines_of cs)) (later_starts (at + len_utf8 c) (lines_of cs))) e)
          ∙ ap (λ xs. get_or xs (suc k) 0) (sym (starts_from-cons (at + len_utf8 c) (lines_of cs) (length-lines_of cs)))
          ∙ omega (arith, later.start, sum_by-cons len_utf8 c later.front);
    }

-- how many lines are left
lines_left : (c : ℕ) (cs : List ℕ) (k : ℕ) → suc k < length (lines_of (c ∷ cs)) → k < length (cond (ends_behind c cs) (lines_of cs) (drop 1 (lines_of cs)))
lines_left c cs k h =
    let g = grow c cs in
    omega (arith, ap length g.rest, length-drop 1 (lines_of (c ∷ cs)))

-- c in front, where the rest can be cut at each of its lines
cut_on : (c : ℕ) (cs : List ℕ) (k at : ℕ) (b : Bool) → ends_behind c cs ≡ b → k < length (cond b (lines_of cs) (drop 1 (lines_of cs))) → ((j at : ℕ) → j < length (lines_of cs) → Cut cs j at) → Cut (c ∷ cs) (suc k) at
cut_on c cs k at true e left later = cut_ended c cs k at e (later k (at + len_utf8 c) left)
cut_on c cs k at false e left later = cut_longer c cs k at e (later (suc k) (at + len_utf8 c) (omega (arith, length-drop 1 (lines_of cs))))

pub cut : (cs : List ℕ) (k at : ℕ) → k < length (lines_of cs) → Cut cs k at
cut cs zero at h = record {
  front = [];
  back = cs;
  whole = refl;
  rest = refl;
  start = ap (λ xs. get_or xs 0 0) (starts_from-cons at (lines_of cs) (length-lines_of cs)) ∙ omega arith;
}
cut [] (suc k) at h = absurd (omega arith)
cut (c ∷ cs) (suc k) at h = cut_on c cs k at (ends_behind c cs) refl (lines_left c cs k h) (λ j at h. cut cs j at h)

scalars-back : (xs ys : List ℕ) → scalars (xs ++ ys) ≡ true → scalars ys ≡ true
scalars-back [] ys e = e
scalars-back (x ∷ xs) ys e = scalars-back xs ys (grind (arith, e))

-- where line k of a text begins the text may be cut, and what is left has the lines from k on
pub record IsLineStart (text : List ℕ) (k start : ℕ) : Type 0 where
  pub boundary : IsCharBoundary text start
  pub lines : lines_of (chars (drop start text)) ≡ drop k (lines_of (chars text))

pub line_start : (text : List ℕ) (k : ℕ) → IsUtf8 text → k < length (line_starts text) → IsLineStart text k (get_or (line_starts text) k 0)
line_start text k u h =
    let there : Cut (chars text) k 0 = cut (chars text) k 0 (omega (arith, length-starts_from (lines_of (chars text)) 0)) in
    let bytes : text ≡ encodes there.front ++ encodes there.back = sym (encodes-chars text u) ∙ ap encodes there.whole ∙ encodes-append there.front there.back in
    let scalar : scalars there.back ≡ true = scalars-back there.front there.back (ap scalars (sym there.whole) ∙ scalars-chars text u) in
    let at : get_or (line_starts text) k 0 ≡ length (encodes there.front) = there.start ∙ omega (arith, length-encodes there.front) in
    let left : drop (get_or (line_starts text) k 0) text ≡ encodes there.back = ap (λ n. drop n text) at ∙ ap (drop (length (encodes there.front))) bytes ∙ drop_at (encodes there.front) (encodes there.back) _ refl in
    record {
      boundary = subst (IsCharBoundary text) (sym at) (IsCharBoundary-at_seam text (encodes there.front) (encodes there.back) bytes (there.back, (scalar, refl)));
      lines = ap (λ bs. lines_of (chars bs)) left ∙ ap lines_of (chars-encodes there.back scalar) ∙ there.rest;
    }
