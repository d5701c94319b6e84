-- Where lines begin, character by character.
use Rattle.std.proofs.Common.{◌≡◌, ℕ, ◌+◌, ◌<◌, Bool, true, false, cond, eqb, List, [], ◌∷◌, ◌++◌, length, get_or, drop, length-append, append_assoc, refl, sym, ap, ◌∙◌, arith}
use Rattle.std.proofs.lemmas.Bool.Decides.{nat_tests}
use Rattle.std.proofs.lemmas.Str.{chars-nil, chars_past_char, byte_from_char, char_from_byte, length-encode, len_utf8_bounds}
use Rattle.std.specs.Str.{chars, IsUtf8, encode_utf8_all as encodes}
use Rattle.std.specs.Char.{len_utf8, encode_utf8}
use Rattle.ls_base.specs.Positions.{Line, lines_of}
use Rattle.text_positions.proofs.LinesOf.{first_bytes, grow, length-lines_of}
use Rattle.text_positions.specs.Lines.{starts_from, line_starts}
use Rattle.text_positions.specs.Walks.{begins_with_feed, ends_behind}

-- where the lines behind the first begin
abbrev pub later_starts : ℕ → List Line → List ℕ
later_starts at lines = starts_from (at + first_bytes lines) (drop 1 lines)

pub starts_from-cons : (at : ℕ) (lines : List Line) → 0 < length lines → starts_from at lines ≡ at ∷ later_starts at lines
starts_from-cons at [] h = absurd (omega arith)
starts_from-cons at (l ∷ lines) h = refl

later_by : (at n : ℕ) (b : Bool) (lines : List Line) → 0 < length lines → starts_from (at + (n + cond b 0 (first_bytes lines))) (cond b lines (drop 1 lines)) ≡ cond b ((at + n) ∷ later_starts (at + n) lines) (later_starts (at + n) lines)
later_by at n true lines some = ap (λ m. starts_from m lines) (omega arith) ∙ starts_from-cons (at + n) lines some
later_by at n false lines some = ap (λ m. starts_from m (drop 1 lines)) (omega arith)

-- one character on
pub later_starts_more : (at c : ℕ) (cs : List ℕ) → later_starts at (lines_of (c ∷ cs)) ≡ cond (ends_behind c cs) ((at + len_utf8 c) ∷ later_starts (at + len_utf8 c) (lines_of cs)) (later_starts (at + len_utf8 c) (lines_of cs))
later_starts_more at c cs =
    let g = grow c cs in
    ap (λ n. starts_from (at + n) (drop 1 (lines_of (c ∷ cs)))) g.first
    ∙ ap (λ lines. starts_from (at + (len_utf8 c + cond (ends_behind c cs) 0 (first_bytes (lines_of cs)))) lines) g.rest
    ∙ later_by at (len_utf8 c) (ends_behind c cs) (lines_of cs) (length-lines_of cs)

-- a text begins with the character of a line feed where it begins with this byte
pub begins_with_feed-chars : (bs : List ℕ) → IsUtf8 bs → begins_with_feed (chars bs) ≡ eqb (get_or bs 0 0) 10
begins_with_feed-chars bs ([], (s, e)) = ap (λ cs. begins_with_feed (chars cs)) (sym e) ∙ ap begins_with_feed chars-nil ∙ ap (λ cs. eqb (get_or cs 0 0) 10) e
begins_with_feed-chars bs (c ∷ cs, (s, e)) =
    let first : chars bs ≡ c ∷ chars (encodes cs) = chars_past_char bs (encodes cs) c (c ∷ cs, (s, e)) (sym e) in
    let there : c ≡ 10 → get_or bs 0 0 ≡ c = λ ten. byte_from_char bs (encodes cs) c (sym e) (omega arith) in
    let long : 0 < length bs = omega (arith, ap length e, length-append (encode_utf8 c) (encodes cs), length-encode c, len_utf8_bounds c) in
    let back : get_or bs 0 0 ≡ 10 → c ≡ get_or bs 0 0 = λ ten. char_from_byte bs (encodes cs) c (sym e) (omega arith) long in
    ap begins_with_feed first ∙ grind (arith, nat_tests, there, back)

-- the text was begins with the character c, which ends at next; the starts in front and those to come are all
module _ (was more front all : List ℕ) (c at next : ℕ) (is : chars was ≡ c ∷ chars more) (at_next : next ≡ at + len_utf8 c) (so_far : front ++ later_starts at (lines_of (chars was)) ≡ all) where
  later_starts_next : later_starts at (lines_of (chars was)) ≡ cond (ends_behind c (chars more)) (next ∷ later_starts next (lines_of (chars more))) (later_starts next (lines_of (chars more)))
  later_starts_next = ap (λ cs. later_starts at (lines_of cs)) is ∙ later_starts_more at c (chars more)
      ∙ ap (λ n. cond (ends_behind c (chars more)) (n ∷ later_starts n (lines_of (chars more))) (later_starts n (lines_of (chars more)))) (sym at_next)

  pub starts_pushed : (b : Bool) → b ≡ ends_behind c (chars more) → b ≡ true → (front ++ next ∷ []) ++ later_starts next (lines_of (chars more)) ≡ all
  starts_pushed b is_b t = append_assoc front (next ∷ []) (later_starts next (lines_of (chars more)))
      ∙ ap (λ b. front ++ cond b (next ∷ later_starts next (lines_of (chars more))) (later_starts next (lines_of (chars more)))) (sym t ∙ is_b)
      ∙ ap (λ xs. front ++ xs) (sym later_starts_next) ∙ so_far

  pub starts_kept : (b : Bool) → b ≡ ends_behind c (chars more) → b ≡ false → front ++ later_starts next (lines_of (chars more)) ≡ all
  starts_kept b is_b f =
      ap (λ b. front ++ cond b (next ∷ later_starts next (lines_of (chars more))) (later_starts next (lines_of (chars more)))) (sym f ∙ is_b)
      ∙ ap (λ xs. front ++ xs) (sym later_starts_next) ∙ so_far

-- at the end of the text no start is to come
pub later_starts-nil : (at : ℕ) (text : List ℕ) → text ≡ [] → later_starts at (lines_of (chars text)) ≡ []
later_starts-nil at text e = ap (λ cs. later_starts at (lines_of (chars cs))) e ∙ ap (λ cs. later_starts at (lines_of cs)) chars-nil

-- at its beginning one start is known
pub starts_begun : (text : List ℕ) (at : ℕ) → at ≡ 0 → 0 ∷ later_starts at (lines_of (chars text)) ≡ line_starts text
starts_begun text at e = ap (λ n. 0 ∷ later_starts n (lines_of (chars text))) e ∙ sym (starts_from-cons 0 (lines_of (chars text)) (length-lines_of (chars text)))
