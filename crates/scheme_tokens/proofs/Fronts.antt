-- The longest front of a text in a class, and what follows it.
use Rattle.std.proofs.Common.{◌≡◌, ℕ, ◌<◌, arith, length, List, [], ◌∷◌, ◌++◌, Bool, true, false, cond, take, drop, refl, sym, ap, ◌∙◌, ◌==◌}
use Rattle.std.proofs.lemmas.List.{take-append-drop, append_cancel_right, length-append, append-nil, nil_from_length}
use Rattle.std.proofs.lemmas.Str.{chars-append, chars-nil, encodes-chars, length-encode, chars_past_char, IsUtf8-encode}
use Rattle.std.proofs.lemmas.Bool.{and_from, eqb-true, eqb-false}
use Rattle.std.proofs.lemmas.List.Sums.{sum_by-cons}
use Rattle.std.specs.List.{list_all}
use Rattle.std.specs.Char.{len_utf8, encode_utf8, IsScalar}
use Rattle.std.specs.Str.{chars, IsUtf8, encode_utf8_all}
use Rattle.scheme_tokens.specs.Mirror.Words.{front_of, behind, byte_count}

one_more : (p : ℕ → Bool) (c : ℕ) (cs : List ℕ) (b : Bool) → front_of p cs ++ behind p cs ≡ cs → cond b (c ∷ front_of p cs) [] ++ cond b (behind p cs) (c ∷ cs) ≡ c ∷ cs
one_more p c cs true h = ap (λ (q : List ℕ). c ∷ q) h
one_more p c cs false h = refl

-- together they are the text
pub front-behind : (p : ℕ → Bool) (cs : List ℕ) → front_of p cs ++ behind p cs ≡ cs
front-behind p [] = refl
front-behind p (c ∷ cs) = one_more p c cs (p c) (front-behind p cs)

-- the bytes before what follows the front are the front
pub front_split : (p : ℕ → Bool) (text rest : List ℕ) (n : ℕ) → IsUtf8 (take n text) → rest ≡ drop n text → chars rest ≡ behind p (chars text) → chars (take n text) ≡ front_of p (chars text)
front_split p text rest n u place e =
    append_cancel_right (chars (take n text)) (front_of p (chars text)) (behind p (chars text))
    (ap (λ (q : List ℕ). chars (take n text) ++ q) (sym e ∙ ap chars place) ∙ sym (chars-append (take n text) (drop n text) u)
    ∙ ap chars (take-append-drop n text) ∙ sym (front-behind p (chars text)))

all_more : (p : ℕ → Bool) (c : ℕ) (cs : List ℕ) (b : Bool) → p c ≡ b → list_all p (front_of p cs) ≡ true → list_all p (cond b (c ∷ front_of p cs) []) ≡ true
all_more p c cs true e h = and_from (p c) (list_all p (front_of p cs)) e h
all_more p c cs false e h = refl

-- all of the front pass
pub list_all-front_of : (p : ℕ → Bool) (cs : List ℕ) → list_all p (front_of p cs) ≡ true
list_all-front_of p [] = refl
list_all-front_of p (c ∷ cs) = all_more p c cs (p c) refl (list_all-front_of p cs)

pub front_of-cons : (p : ℕ → Bool) (c : ℕ) (cs : List ℕ) → p c ≡ true → front_of p (c ∷ cs) ≡ c ∷ front_of p cs
front_of-cons p c cs h = ap (λ (b : Bool). cond b (c ∷ front_of p cs) []) h

pub byte_count-encodes : (cs : List ℕ) → byte_count cs ≡ length (encode_utf8_all cs)
byte_count-encodes [] = refl
byte_count-encodes (c ∷ cs) =
    omega (arith, sum_by-cons len_utf8 c cs, length-append (encode_utf8 c) (encode_utf8_all cs), length-encode c, byte_count-encodes cs)

-- the bytes of a text's characters are those of the text
pub byte_count-chars : (text : List ℕ) → IsUtf8 text → byte_count (chars text) ≡ length text
byte_count-chars text u = byte_count-encodes (chars text) ∙ ap length (encodes-chars text u)

no_text : (c : ℕ) (cs : List ℕ) → [] ≡ c ∷ cs → ⊥
no_text c cs e = cc

-- a text with a character has a byte
pub some_bytes : (text : List ℕ) (c : ℕ) (cs : List ℕ) → chars text ≡ c ∷ cs → 0 < length text
some_bytes [] c cs e = absurd (no_text c cs (sym chars-nil ∙ e))
some_bytes (b ∷ bs) c cs e = omega arith

pub no_chars : (text : List ℕ) → (length text == 0) ≡ true → chars text ≡ []
no_chars text e = ap chars (nil_from_length text (eqb-true (length text) 0 e)) ∙ chars-nil

some_char : (text cs : List ℕ) → IsUtf8 text → (length text == 0) ≡ false → chars text ≡ cs → (c : ℕ) × (ds : List ℕ) × (chars text ≡ c ∷ ds)
some_char text [] u e f = absurd (eqb-false (length text) 0 e (sym (ap length (encodes-chars text u)) ∙ ap (λ (q : List ℕ). length (encode_utf8_all q)) f))
some_char text (c ∷ cs) u e f = (c, cs, f)

-- a text with a byte has a character
pub first_char : (text : List ℕ) → IsUtf8 text → (length text == 0) ≡ false → (c : ℕ) × (cs : List ℕ) × (chars text ≡ c ∷ cs)
first_char text u e = some_char text (chars text) u e refl

-- a character more at the end
pub chars-push : (text : List ℕ) (c : ℕ) → IsUtf8 text → IsScalar c → chars (text ++ encode_utf8 c) ≡ chars text ++ c ∷ []
chars-push text c u s =
    chars-append text (encode_utf8 c) u
    ∙ ap (λ (q : List ℕ). chars text ++ q) (chars_past_char (encode_utf8 c) [] c (IsUtf8-encode c s) (sym (append-nil (encode_utf8 c))) ∙ ap (λ (q : List ℕ). c ∷ q) chars-nil)
