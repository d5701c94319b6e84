-- The first line of a text, character by character.
use Rattle.std.proofs.Common.{◌≡◌, ◌≢◌, ◌↔◌, ℕ, ◌+◌, ◌-◌, ◌<◌, ◌≤◌, ◌⊎◌, inl, inr, Bool, true, false, IsTrue, List, [], ◌∷◌, length, drop, refl, sym, ap, ◌∙◌, arith}
use Rattle.std.proofs.lemmas.List.{drop-drop}
use Rattle.std.proofs.lemmas.Bool.Decides.{nat_tests}
use Rattle.std.proofs.lemmas.Bool.{false≢true}
use Rattle.std.proofs.lemmas.Str.{chars-nil, len_utf8_bounds}
use Rattle.std.specs.Str.{chars}
use Rattle.std.specs.Char.{len_utf8}
use Rattle.ls_base.specs.Positions.{Line, lines_of, returned, longer, units_of, bytes_within, units_within}
use Rattle.ls_base.specs.declared.encoding.Encoding.{Encoding}
use Rattle.ls_base.specs.declared.encoding.Encoding.TheVariants.{Utf8, Utf16, Utf32}
use Rattle.text_positions.specs.Walks.{EndsLine, first_chars, first_line}

pair_few : (c : ℕ) → units_of Utf16 c ≤ len_utf8 c
pair_few c = grind (arith, nat_tests)

-- a character has no more units than bytes
pub units_of-le-len_utf8 : (e : Encoding) (c : ℕ) → units_of e c ≤ len_utf8 c
units_of-le-len_utf8 Utf8 c = omega arith
units_of-le-len_utf8 Utf16 c = pair_few c
units_of-le-len_utf8 Utf32 c = omega (arith, len_utf8_bounds c)

first_chars-returned : (cs : List ℕ) (lines : List Line) → first_chars (returned cs lines) ≡ []
first_chars-returned [] lines = refl
first_chars-returned (c ∷ cs) [] = refl
first_chars-returned (c ∷ cs) (l ∷ lines) = grind arith

first_chars-longer : (c : ℕ) (lines : List Line) → first_chars (longer c lines) ≡ c ∷ first_chars lines
first_chars-longer c [] = refl
first_chars-longer c (l ∷ lines) = refl

-- a line end at the front: the first line is empty
pub first_chars_end : (c : ℕ) (cs : List ℕ) → EndsLine c → first_chars (lines_of (c ∷ cs)) ≡ []
first_chars_end c cs (inl e) = grind (arith, nat_tests)
first_chars_end c cs (inr e) = grind (arith, nat_tests, first_chars-returned cs (lines_of cs))

-- another character at the front belongs to the first line
pub first_chars_more : (c : ℕ) (cs : List ℕ) → ¬ EndsLine c → first_chars (lines_of (c ∷ cs)) ≡ c ∷ first_chars (lines_of cs)
first_chars_more c cs other =
    let n : c ≢ 10 = λ e. other (inl e) in
    let r : c ≢ 13 = λ e. other (inr e) in
    grind (arith, nat_tests, first_chars-longer c (lines_of cs))

-- the text begins with the character c, and the test b says whether it ends a line
module _ (units : ℕ → ℕ) (text more : List ℕ) (c : ℕ) (b : Bool) (is : chars text ≡ c ∷ chars more) (tells : IsTrue b ↔ EndsLine c) where
  first_line_end : b ≡ true → first_line text ≡ []
  first_line_end t = ap (λ cs. first_chars (lines_of cs)) is ∙ first_chars_end c (chars more) (tells.0 t)

  first_line_more : b ≡ false → first_line text ≡ c ∷ first_line more
  first_line_more f = ap (λ cs. first_chars (lines_of cs)) is ∙ first_chars_more c (chars more) (λ e. false≢true (sym f ∙ tells.1 e))

  -- a character that fits is taken
  pub bytes_more : (n : ℕ) → b ≡ false → units c ≤ n → bytes_within units n (first_line text) ≡ len_utf8 c + bytes_within units (n - units c) (first_line more)
  bytes_more n f fits = ap (bytes_within units n) (first_line_more f) ∙ grind (arith, nat_tests)

  pub units_more : (bytes : ℕ) → b ≡ false → len_utf8 c ≤ bytes → units_within units bytes (first_line text) ≡ units c + units_within units (bytes - len_utf8 c) (first_line more)
  units_more bytes f fits = ap (units_within units bytes) (first_line_more f) ∙ grind (arith, nat_tests)

  -- a line end, or a character that doesn't fit, is where the walk ends
  pub bytes_stop : (n : ℕ) → (b ≡ true) ⊎ ((b ≡ false) × (n < units c)) → bytes_within units n (first_line text) ≡ 0
  bytes_stop n (inl t) = ap (bytes_within units n) (first_line_end t)
  bytes_stop n (inr h) = ap (bytes_within units n) (first_line_more h.0) ∙ grind (arith, nat_tests, h.1)

  pub units_stop : (bytes : ℕ) → (b ≡ true) ⊎ ((b ≡ false) × (bytes < len_utf8 c)) → units_within units bytes (first_line text) ≡ 0
  units_stop bytes (inl t) = ap (units_within units bytes) (first_line_end t)
  units_stop bytes (inr h) = ap (units_within units bytes) (first_line_more h.0) ∙ grind (arith, nat_tests, h.1)

-- so is the end of the text
pub first_line-nil : (text : List ℕ) → text ≡ [] → first_line text ≡ []
first_line-nil text e = ap first_line e ∙ ap (λ cs. first_chars (lines_of cs)) chars-nil

-- what is left of a text, one character on
pub rest_more : (text was more : List ℕ) (n : ℕ) → was ≡ drop (length text - length was) text → more ≡ drop n was → length more + n ≡ length was → length was ≤ length text → more ≡ drop (length text - length more) text
rest_more text was more n w m k le =
    let e : (length text - length was) + n ≡ length text - length more = omega arith in
    m ∙ ap (drop n) w ∙ drop-drop n (length text - length was) text ∙ ap (λ q. drop q text) e
