-- The characters of libraries' texts: a text is theirs in UTF-8.
use Rattle.std.proofs.Common.{◌≡◌, ℕ, ◌<◌, Bool, true, false, List, [], ◌∷◌, ◌++◌, refl, sym, ap, ◌∙◌, arith, append_assoc}
use Rattle.std.specs.Prelude.{nat_lt}
use Rattle.std.specs.List.{list_all}
use Rattle.std.specs.Char.{is_ascii_digit}
use Rattle.std.specs.Str.{chars, encode_utf8_all}
use Rattle.std.proofs.lemmas.Bool.{and_parts}
use Rattle.std.proofs.lemmas.Str.{encodes-append, encode_ascii}
use Rattle.scheme_tokens.specs.Mirror.Spelled.{spelled}
use Rattle.scheme_model.specs.Requirements.{LibraryPart, Symbol, Digits, LibraryName}
use Rattle.scheme_tokens.specs.LibraryNames.{part_text, behind_spaces, IsProperPart, AreProper}

-- ---- ASCII characters are their own bytes

abbrev pub is_small : ℕ → Bool
is_small c = nat_lt c 128

small : (c : ℕ) → is_small c ≡ true → c < 128
small c h = grind (arith)

digit_small : (c : ℕ) → is_ascii_digit c ≡ true → c < 128
digit_small c h = grind (arith)

pub small_bytes : (s : List ℕ) → list_all is_small s ≡ true → encode_utf8_all s ≡ s
small_bytes [] h = refl
small_bytes (c ∷ cs) h =
    let both = and_parts (is_small c) (list_all is_small cs) h in
    λ j. encode_ascii c (small c both.0) j ++ small_bytes cs both.1 j

digits_bytes : (s : List ℕ) → list_all is_ascii_digit s ≡ true → encode_utf8_all s ≡ s
digits_bytes [] h = refl
digits_bytes (c ∷ cs) h =
    let both = and_parts (is_ascii_digit c) (list_all is_ascii_digit cs) h in
    λ j. encode_ascii c (digit_small c both.0) j ++ digits_bytes cs both.1 j

-- ---- a name's characters

abbrev pub part_chars : LibraryPart → List ℕ
part_chars (Symbol s) = spelled (chars s) false
part_chars (Digits s) = s

-- what stands behind a part, and the closing parenthesis
abbrev pub chars_behind : LibraryName → List ℕ
chars_behind [] = 41 ∷ []
chars_behind (p ∷ ps) = 32 ∷ (part_chars p ++ chars_behind ps)

part_bytes : (p : LibraryPart) → IsProperPart p → part_text p ≡ encode_utf8_all (part_chars p)
part_bytes (Symbol s) h = refl
part_bytes (Digits s) h = sym (digits_bytes s h)

ascii_before : (c : ℕ) (cs : List ℕ) → c < 128 → c ∷ encode_utf8_all cs ≡ encode_utf8_all (c ∷ cs)
ascii_before c cs h = ap (λ (q : List ℕ). q ++ encode_utf8_all cs) (sym (encode_ascii c h))

joined : (p : LibraryPart) (ps : LibraryName) → IsProperPart p → behind_spaces ps ++ 41 ∷ [] ≡ encode_utf8_all (chars_behind ps) →
    (part_text p ++ behind_spaces ps) ++ 41 ∷ [] ≡ encode_utf8_all (part_chars p ++ chars_behind ps)
joined p ps h e = append_assoc (part_text p) (behind_spaces ps) (41 ∷ []) ∙ (λ j. part_bytes p h j ++ e j) ∙ sym (encodes-append (part_chars p) (chars_behind ps))

behind_bytes : (n : LibraryName) → AreProper n → behind_spaces n ++ 41 ∷ [] ≡ encode_utf8_all (chars_behind n)
behind_bytes [] h = ascii_before 41 [] (omega arith)
behind_bytes (p ∷ ps) h =
    ap (λ (q : List ℕ). 32 ∷ q) (joined p ps h.0 (behind_bytes ps h.1)) ∙ ascii_before 32 (part_chars p ++ chars_behind ps) (omega arith)

-- the parts of a name, and the closing parenthesis
pub parts_bytes : (p : LibraryPart) (ps : LibraryName) → IsProperPart p → AreProper ps → (part_text p ++ behind_spaces ps) ++ 41 ∷ [] ≡ encode_utf8_all (part_chars p ++ chars_behind ps)
parts_bytes p ps h k = joined p ps h (behind_bytes ps k)
