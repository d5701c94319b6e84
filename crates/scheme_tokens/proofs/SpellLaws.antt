-- A spelled name is read back.
use Rattle.std.proofs.Common.{◌≡◌, ℕ, zero, suc, ◌+◌, ◌*◌, ◌/◌, ◌%◌, ◌<◌, ◌≤◌, inl, inr, List, [], ◌∷◌, ◌++◌, Option, Some, Result, Ok, Bool, true, false, cond, not, refl, sym, ap, ◌∙◌, arith, length, append_assoc, ◌==◌, nat_lt, ◌&&◌, ◌||◌}
use Rattle.std.specs.List.{list_all, flat_map}
use Rattle.std.specs.Char.{is_whitespace, is_ascii, digit_value, digit_char}
use Rattle.std.proofs.lemmas.Bool.{cond-true, cond-false, or_cases, or_left, or_right, cond_both, and_parts, and_from, eqb-true, lt-ltb, ltb-true, cases_eq, eq-eqb, not-true, false_from_ne_true, false≢true, or_parts}
use Rattle.std.proofs.lemmas.Bool.Decides.{nat_tests}
use Rattle.std.proofs.lemmas.List.{length-append}
use Rattle.std.proofs.lemmas.Str.{digit_value-digit_char, length-le-encodes}
use Rattle.unicode.proofs.CategoryComputing.{ucd_category}
use Rattle.scheme_tokens.specs.Lexical.{is_one_of, is_delimiter, is_sign, is_initial, is_subsequent, is_sign_subsequent, is_dot_subsequent, is_hex_digit, is_scalar}
use Rattle.scheme_tokens.specs.Mirror.Words.{byte_count, front_of, behind, is_inside, is_numeral, is_identifier, goes_on_sign, goes_on_dot}
use Rattle.scheme_tokens.specs.Mirror.Quoted.{Fault, ◌>>=◌, element, elements, escape, quoted, hex_value, hex_end, letter}
use Rattle.scheme_tokens.specs.Mirror.Tokens.{TokenKind, Atomic, Name, word_kind, word_token, token}
use Rattle.scheme_tokens.specs.Spelling.{hex_digits, hex_escape, in_bars, barred}
use Rattle.scheme_tokens.proofs.Fronts.{front_of-cons, byte_count-encodes}

-- no character of an identifier ends a word

abbrev ends : List ℕ
ends = 9 ∷ 10 ∷ 11 ∷ 12 ∷ 13 ∷ 32 ∷ 34 ∷ 40 ∷ 41 ∷ 59 ∷ 124 ∷ 133 ∷ 160 ∷ 5760 ∷ 8192 ∷ 8193 ∷ 8194 ∷ 8195 ∷ 8196 ∷ 8197 ∷ 8198 ∷ 8199 ∷ 8200 ∷ 8201 ∷ 8202 ∷ 8232 ∷ 8233 ∷ 8239 ∷ 8287 ∷ 12288 ∷ []

none_subsequent : list_all (λ c. not (is_subsequent c)) ends ≡ true
unfolding is_subsequent is_initial ucd_category
none_subsequent = refl

pub member : (p : ℕ → Bool) (cs : List ℕ) (c : ℕ) → is_one_of cs c ≡ true → list_all p cs ≡ true → p c ≡ true
member p [] c h k = absurd (false≢true h)
member p (d ∷ ds) c h k =
    let parts = and_parts (p d) (list_all p ds) k in
    elim (or_cases (c == d) (is_one_of ds c) h) [
      | inl e ↦ ap p (eqb-true c d e) ∙ parts.0
      | inr e ↦ member p ds c e parts.1
    ]

an_end : (c : ℕ) → is_one_of ends c ≡ true → is_subsequent c ≡ false
an_end c h = not-true (is_subsequent c) (member (λ q. not (is_subsequent q)) ends c h none_subsequent)

at_end : (c d : ℕ) → (c == d) ≡ true → is_one_of ends d ≡ true → is_subsequent c ≡ false
at_end c d e m = an_end c (ap (is_one_of ends) (eqb-true c d e) ∙ m)

count : ℕ → ℕ → List ℕ
count low zero = []
count low (suc n) = low ∷ count (low + 1) n

member_count : (low n c : ℕ) → low ≤ c → c < low + n → is_one_of (count low n) c ≡ true
unfolding count
member_count low zero c h k = absurd (omega arith)
member_count low (suc n) c h k = elim (cases_eq c low) [
  | inl e ↦ or_left (c == low) (is_one_of (count (low + 1) n) c) (eq-eqb c low e)
  | inr e ↦ or_right (c == low) (is_one_of (count (low + 1) n) c) (member_count (low + 1) n c (omega (arith, e)) (omega arith))
]

few : list_all (is_one_of ends) (count 9 5) ≡ true
unfolding count
few = refl

spaces : list_all (is_one_of ends) (count 8192 11) ≡ true
unfolding count
spaces = refl

low : (c : ℕ) → (nat_lt 8 c && nat_lt c 14) ≡ true → is_subsequent c ≡ false
low c h =
    let parts = and_parts (nat_lt 8 c) (nat_lt c 14) h in
    let above = ltb-true 8 c parts.0 in
    let below = ltb-true c 14 parts.1 in
    an_end c (member (is_one_of ends) (count 9 5) c (member_count 9 5 c (omega arith) (omega arith)) few)

high : (c : ℕ) → (nat_lt 8191 c && nat_lt c 8203) ≡ true → is_subsequent c ≡ false
high c h =
    let parts = and_parts (nat_lt 8191 c) (nat_lt c 8203) h in
    let above = ltb-true 8191 c parts.0 in
    let below = ltb-true c 8203 parts.1 in
    an_end c (member (is_one_of ends) (count 8192 11) c (member_count 8192 11 c (omega arith) (omega arith)) spaces)

either : (c d : ℕ) (b : Bool) → (b ≡ true → is_subsequent c ≡ false) → is_one_of ends d ≡ true → (b || c == d) ≡ true → is_subsequent c ≡ false
either c d b f m h = elim (or_cases b (c == d) h) [ inl e ↦ f e | inr e ↦ at_end c d e m ]

abbrev first_spaces : ℕ → Bool
first_spaces c = (((nat_lt 8 c && nat_lt c 14) || c == 32) || c == 133) || c == 160

abbrev more_spaces : ℕ → Bool
more_spaces c = (first_spaces c || c == 5760) || (nat_lt 8191 c && nat_lt c 8203)

first_spaces_end : (c : ℕ) → first_spaces c ≡ true → is_subsequent c ≡ false
first_spaces_end c = either c 160 (((nat_lt 8 c && nat_lt c 14) || c == 32) || c == 133) (either c 133 ((nat_lt 8 c && nat_lt c 14) || c == 32) (either c 32 (nat_lt 8 c && nat_lt c 14) (low c) refl) refl) refl

more_spaces_end : (c : ℕ) → more_spaces c ≡ true → is_subsequent c ≡ false
more_spaces_end c h = elim (or_cases (first_spaces c || c == 5760) (nat_lt 8191 c && nat_lt c 8203) h) [
  | inl e ↦ either c 5760 (first_spaces c) (first_spaces_end c) refl e
  | inr e ↦ high c e
]

white_end : (c : ℕ) → is_whitespace c ≡ true → is_subsequent c ≡ false
white_end c =
    either c 12288 ((((more_spaces c || c == 8232) || c == 8233) || c == 8239) || c == 8287)
    (either c 8287 (((more_spaces c || c == 8232) || c == 8233) || c == 8239)
    (either c 8239 ((more_spaces c || c == 8232) || c == 8233) (either c 8233 (more_spaces c || c == 8232) (either c 8232 (more_spaces c) (more_spaces_end c) refl) refl) refl) refl)
    refl

marks_end : (c : ℕ) → is_one_of (34 ∷ 124 ∷ 40 ∷ 41 ∷ 59 ∷ []) c ≡ true → is_subsequent c ≡ false
marks_end c h = an_end c (member (is_one_of ends) (34 ∷ 124 ∷ 40 ∷ 41 ∷ 59 ∷ []) c h refl)

delimiter_end : (c : ℕ) → is_delimiter c ≡ true → is_subsequent c ≡ false
unfolding is_delimiter
delimiter_end c h = elim (or_cases (is_whitespace c) (is_one_of (34 ∷ 124 ∷ 40 ∷ 41 ∷ 59 ∷ []) c) h) [ inl e ↦ white_end c e | inr e ↦ marks_end c e ]

not_both : (b : Bool) → b ≡ true → b ≡ false → ⊥
not_both b h k = cc

inside_when : (c : ℕ) (b : Bool) → is_delimiter c ≡ b → is_subsequent c ≡ true → is_inside c ≡ true
inside_when c true e h = absurd (not_both (is_subsequent c) h (delimiter_end c e))
inside_when c false e h = ap (λ (b : Bool). cond b false true) e

all_inside : (cs : List ℕ) → list_all is_subsequent cs ≡ true → list_all is_inside cs ≡ true
all_inside [] h = refl
all_inside (c ∷ cs) h =
    let parts = and_parts (is_subsequent c) (list_all is_subsequent cs) h in
    and_from (is_inside c) (list_all is_inside cs) (inside_when c (is_delimiter c) refl parts.0) (all_inside cs parts.1)

front_all : (p : ℕ → Bool) (cs : List ℕ) → list_all p cs ≡ true → front_of p cs ≡ cs
front_all p [] h = refl
front_all p (c ∷ cs) h =
    let parts = and_parts (p c) (list_all p cs) h in
    front_of-cons p c cs parts.0 ∙ ap (λ (q : List ℕ). c ∷ q) (front_all p cs parts.1)

behind_more : (p : ℕ → Bool) (c : ℕ) (cs : List ℕ) → p c ≡ true → behind p (c ∷ cs) ≡ behind p cs
behind_more p c cs h = ap (λ (b : Bool). cond b (behind p cs) (c ∷ cs)) h

behind_all : (p : ℕ → Bool) (cs : List ℕ) → list_all p cs ≡ true → behind p cs ≡ []
behind_all p [] h = refl
behind_all p (c ∷ cs) h =
    let parts = and_parts (p c) (list_all p cs) h in
    behind_more p c cs parts.0 ∙ behind_all p cs parts.1

-- each character of an identifier may stand behind its first

initial_follows : (c : ℕ) → is_initial c ≡ true → is_subsequent c ≡ true
unfolding is_subsequent
initial_follows c h = cond_both (is_ascii c) _ _ (λ (b : Bool). b ≡ true) (λ e. or_left (is_initial c) _ h) (λ e. or_left (is_initial c) _ h)

is : (c d : ℕ) → (c == d) ≡ true → is_subsequent d ≡ true → is_subsequent c ≡ true
is c d e h = ap is_subsequent (eqb-true c d e) ∙ h

plus : is_subsequent 43 ≡ true
unfolding is_subsequent is_initial
plus = refl

minus : is_subsequent 45 ≡ true
unfolding is_subsequent is_initial
minus = refl

dot : is_subsequent 46 ≡ true
unfolding is_subsequent is_initial
dot = refl

at_sign : is_subsequent 64 ≡ true
unfolding is_subsequent is_initial
at_sign = refl

sign_follows : (c : ℕ) → is_sign c ≡ true → is_subsequent c ≡ true
sign_follows c h = elim (or_cases (c == 43) (c == 45) h) [ inl e ↦ is c 43 e plus | inr e ↦ is c 45 e minus ]

sign_subsequent_follows : (c : ℕ) → is_sign_subsequent c ≡ true → is_subsequent c ≡ true
sign_subsequent_follows c h = elim (or_cases (is_initial c) (is_sign c || c == 64) h) [
  | inl e ↦ initial_follows c e
  | inr e ↦ elim (or_cases (is_sign c) (c == 64) e) [ inl f ↦ sign_follows c f | inr f ↦ is c 64 f at_sign ]
]

dot_subsequent_follows : (c : ℕ) → is_dot_subsequent c ≡ true → is_subsequent c ≡ true
dot_subsequent_follows c h = elim (or_cases (is_sign_subsequent c) (c == 46) h) [ inl e ↦ sign_subsequent_follows c e | inr e ↦ is c 46 e dot ]

dot_goes : (cs : List ℕ) → goes_on_dot cs ≡ true → list_all is_subsequent cs ≡ true
dot_goes [] h = refl
dot_goes (c ∷ cs) h =
    let parts = and_parts (is_dot_subsequent c) (list_all is_subsequent cs) h in
    and_from (is_subsequent c) (list_all is_subsequent cs) (dot_subsequent_follows c parts.0) parts.1

sign_goes_when : (c : ℕ) (cs : List ℕ) (b : Bool) → (c == 46) ≡ b → cond b (goes_on_dot cs) (is_sign_subsequent c && list_all is_subsequent cs) ≡ true → list_all is_subsequent (c ∷ cs) ≡ true
sign_goes_when c cs true e h = and_from (is_subsequent c) (list_all is_subsequent cs) (is c 46 e dot) (dot_goes cs h)
sign_goes_when c cs false e h =
    let parts = and_parts (is_sign_subsequent c) (list_all is_subsequent cs) h in
    and_from (is_subsequent c) (list_all is_subsequent cs) (sign_subsequent_follows c parts.0) parts.1

sign_goes : (cs : List ℕ) → goes_on_sign cs ≡ true → list_all is_subsequent cs ≡ true
sign_goes [] h = refl
sign_goes (c ∷ cs) h = sign_goes_when c cs (c == 46) refl h

goes_when : (c : ℕ) (cs : List ℕ) (sign point : Bool) → is_sign c ≡ sign → (c == 46) ≡ point →
    cond sign (goes_on_sign cs) (cond point (goes_on_dot cs) (is_initial c && list_all is_subsequent cs)) ≡ true → list_all is_subsequent (c ∷ cs) ≡ true
goes_when c cs true point e f h = and_from (is_subsequent c) (list_all is_subsequent cs) (sign_follows c e) (sign_goes cs h)
goes_when c cs false true e f h = and_from (is_subsequent c) (list_all is_subsequent cs) (is c 46 f dot) (dot_goes cs h)
goes_when c cs false false e f h =
    let parts = and_parts (is_initial c) (list_all is_subsequent cs) h in
    and_from (is_subsequent c) (list_all is_subsequent cs) (initial_follows c parts.0) parts.1

pub all_follow : (c : ℕ) (cs : List ℕ) → is_identifier (c ∷ cs) ≡ true → list_all is_subsequent (c ∷ cs) ≡ true
unfolding is_identifier
all_follow c cs h = goes_when c cs (is_sign c) (c == 46) refl refl h

-- so an identifier is one word and begins with no mark

abbrev pub marks : List ℕ
marks = 40 ∷ 41 ∷ 39 ∷ 96 ∷ 44 ∷ 34 ∷ 124 ∷ 35 ∷ []

no_marks : list_all (λ c. not (is_subsequent c)) marks ≡ true
unfolding is_subsequent is_initial
no_marks = refl

no_mark : (c d : ℕ) → is_subsequent c ≡ true → is_one_of marks d ≡ true → (c == d) ≡ false
no_mark c d h m =
    false_from_ne_true (c == d) (λ e. not_both (is_subsequent c) h (ap is_subsequent (eqb-true c d e) ∙ not-true (is_subsequent d) (member (λ q. not (is_subsequent q)) marks d m no_marks)))

pub as_word : (c : ℕ) (cs : List ℕ) → is_subsequent c ≡ true → token (c ∷ cs) ≡ word_token (c ∷ cs)
unfolding token
as_word c cs h =
    cond-false (c == 40) _ _ (no_mark c 40 h refl) ∙ cond-false (c == 41) _ _ (no_mark c 41 h refl) ∙ cond-false (c == 39) _ _ (no_mark c 39 h refl)
    ∙ cond-false (c == 96) _ _ (no_mark c 96 h refl) ∙ cond-false (c == 44) _ _ (no_mark c 44 h refl) ∙ cond-false (c == 34) _ _ (no_mark c 34 h refl)
    ∙ cond-false (c == 124) _ _ (no_mark c 124 h refl) ∙ cond-false (c == 35) _ _ (no_mark c 35 h refl)

bare_kind : (name : List ℕ) → is_numeral name ≡ false → is_identifier name ≡ true → word_kind name ≡ Ok (Atomic (Name name false))
unfolding word_kind
bare_kind name h k = cond-false (is_numeral name) _ _ h ∙ cond-true (is_identifier name) _ _ k

no_identifier : is_identifier [] ≡ false
unfolding is_identifier
no_identifier = refl

-- a word that is a kind, with the text behind it
abbrev before_word : List ℕ → List ℕ → Result (TokenKind × List ℕ) Fault
before_word rest word = word_kind word >>= λ k. Ok (k, rest)

pub bare_read : (name : List ℕ) → is_numeral name ≡ false → is_identifier name ≡ true → token name ≡ Ok (Atomic (Name name false), [])
bare_read [] h k = absurd (not_both (is_identifier []) k no_identifier)
bare_read (c ∷ cs) h k =
    let all = all_follow c cs k in
    let inside = all_inside (c ∷ cs) all in
    as_word c cs (and_parts (is_subsequent c) (list_all is_subsequent cs) all).0
    ∙ (λ i. before_word (behind_all is_inside (c ∷ cs) inside i) (front_all is_inside (c ∷ cs) inside i))
    ∙ ap (λ (r : Result TokenKind Fault). r >>= λ k. Ok (k, [])) (bare_kind (c ∷ cs) h k)

-- between bars

element_step : (most close d : ℕ) (ds : List ℕ) (first behind : List ℕ) → (d == close) ≡ false → element close d ds ≡ Ok (first, behind) →
    elements (suc most) close (d ∷ ds) ≡ (elements most close behind >>= λ more. Ok (first ++ more.0, more.1))
unfolding elements
element_step most close d ds first behind h e =
    cond-false (d == close) _ _ h ∙ ap (λ (r : Result (List ℕ × List ℕ) Fault). r >>= λ first. elements most close first.1 >>= λ more. Ok (first.0 ++ more.0, more.1)) e

last_step : (most : ℕ) (rest : List ℕ) → elements (suc most) 124 (124 ∷ rest) ≡ Ok ([], rest)
unfolding elements
last_step most rest = refl

escaped_bar : (tail : List ℕ) → element 124 92 (124 ∷ tail) ≡ Ok (124 ∷ [], tail)
unfolding element escape
escaped_bar tail = refl

escaped_hex : (cs : List ℕ) → element 124 92 (120 ∷ cs) ≡ hex_end 124 (front_of is_hex_digit cs) (behind is_hex_digit cs)
unfolding element escape
escaped_hex cs = refl

plain_when : (c : ℕ) (tail : List ℕ) → (c == 92) ≡ false → element 124 c tail ≡ Ok (c ∷ [], tail)
unfolding element
plain_when c tail h = cond-false (c == 92) _ _ h

digit_is_hex : (n : ℕ) → n < 16 → is_hex_digit (digit_char n) ≡ true
digit_is_hex n h = lt-ltb (digit_value (digit_char n)) 16 (omega (arith, digit_value-digit_char n (omega arith)))

scalar_below : (c : ℕ) → c < 128 → is_scalar c ≡ true
scalar_below c h = grind (arith, nat_tests)

one_digit : (c d : ℕ) (tail : List ℕ) → is_hex_digit d ≡ true → digit_value d ≡ c → c < 128 →
    hex_end 124 (front_of is_hex_digit (d ∷ 59 ∷ tail)) (behind is_hex_digit (d ∷ 59 ∷ tail)) ≡ Ok (c ∷ [], tail)
one_digit c d tail h v small =
    let value : hex_value (d ∷ []) ≡ c = omega (arith, v) in
    (λ i. hex_end 124 (front_of-cons is_hex_digit d (59 ∷ tail) h i) (behind_more is_hex_digit d (59 ∷ tail) h i))
    ∙ ap (λ (o : Option ℕ). letter o tail) (cond-true (is_scalar (hex_value (d ∷ []))) _ _ (ap is_scalar value ∙ scalar_below c small) ∙ ap (λ (n : ℕ). Some n) value)

two_digits : (c d e : ℕ) (tail : List ℕ) → is_hex_digit d ≡ true → is_hex_digit e ≡ true → 16 * digit_value d + digit_value e ≡ c → c < 128 →
    hex_end 124 (front_of is_hex_digit (d ∷ e ∷ 59 ∷ tail)) (behind is_hex_digit (d ∷ e ∷ 59 ∷ tail)) ≡ Ok (c ∷ [], tail)
two_digits c d e tail h k v small =
    let value : hex_value (d ∷ e ∷ []) ≡ c = omega (arith, v) in
    let front = front_of-cons is_hex_digit d (e ∷ 59 ∷ tail) h ∙ ap (λ (q : List ℕ). d ∷ q) (front_of-cons is_hex_digit e (59 ∷ tail) k) in
    let rest = behind_more is_hex_digit d (e ∷ 59 ∷ tail) h ∙ behind_more is_hex_digit e (59 ∷ tail) k in
    (λ i. hex_end 124 (front i) (rest i))
    ∙ ap (λ (o : Option ℕ). letter o tail) (cond-true (is_scalar (hex_value (d ∷ e ∷ []))) _ _ (ap is_scalar value ∙ scalar_below c small) ∙ ap (λ (n : ℕ). Some n) value)

hex_when : (c : ℕ) (tail : List ℕ) (b : Bool) → nat_lt c 16 ≡ b → c < 128 →
    element 124 92 (120 ∷ ((cond b (digit_char c ∷ []) (digit_char (c / 16) ∷ digit_char (c % 16) ∷ []) ++ 59 ∷ []) ++ tail)) ≡ Ok (c ∷ [], tail)
hex_when c tail true e small =
    let below = ltb-true c 16 e in
    escaped_hex (digit_char c ∷ 59 ∷ tail) ∙ one_digit c (digit_char c) tail (digit_is_hex c below) (digit_value-digit_char c (omega arith)) small
hex_when c tail false e small =
    let high : c / 16 < 16 = omega arith in
    let low : c % 16 < 16 = omega arith in
    escaped_hex (digit_char (c / 16) ∷ digit_char (c % 16) ∷ 59 ∷ tail)
    ∙ two_digits c (digit_char (c / 16)) (digit_char (c % 16)) tail (digit_is_hex (c / 16) high) (digit_is_hex (c % 16) low)
    (omega (arith, digit_value-digit_char (c / 16) (omega arith), digit_value-digit_char (c % 16) (omega arith))) small

-- what is written for one character reads as that character
one_when : (most c : ℕ) (tail : List ℕ) (bar hex : Bool) → (c == 124) ≡ bar → (c == 92 || (nat_lt c 32 || c == 127)) ≡ hex →
    elements (suc most) 124 (cond bar (92 ∷ 124 ∷ []) (cond hex (hex_escape c) (c ∷ [])) ++ tail) ≡ (elements most 124 tail >>= λ more. Ok (c ∷ more.0, more.1))
one_when most c tail true hex e f =
    element_step most 124 92 (124 ∷ tail) (124 ∷ []) tail refl (escaped_bar tail)
    ∙ ap (λ (n : ℕ). elements most 124 tail >>= λ more. Ok (n ∷ more.0, more.1)) (sym (eqb-true c 124 e))
one_when most c tail false true e f =
    let small : c < 128 = grind (arith, nat_tests) in
    element_step most 124 92 (120 ∷ ((hex_digits c ++ 59 ∷ []) ++ tail)) (c ∷ []) tail refl (hex_when c tail (nat_lt c 16) refl small)
one_when most c tail false false e f =
    element_step most 124 c tail (c ∷ []) tail e (plain_when c tail (or_parts (c == 92) (nat_lt c 32 || c == 127) f).0)

read_in_bars : (name : List ℕ) (most : ℕ) (rest : List ℕ) → length name < most → elements most 124 (flat_map in_bars name ++ 124 ∷ rest) ≡ Ok (name, rest)
read_in_bars name zero rest h = absurd (omega arith)
read_in_bars [] (suc most) rest h = last_step most rest
read_in_bars (c ∷ cs) (suc most) rest h =
    ap (elements (suc most) 124) (append_assoc (in_bars c) (flat_map in_bars cs) (124 ∷ rest))
    ∙ one_when most c (flat_map in_bars cs ++ 124 ∷ rest) (c == 124) (c == 92 || (nat_lt c 32 || c == 127)) refl refl
    ∙ ap (λ (r : Result (List ℕ × List ℕ) Fault). r >>= λ more. Ok (c ∷ more.0, more.1)) (read_in_bars cs most rest (omega arith))

some_written : (c : ℕ) (bar hex : Bool) → 0 < length (cond bar (92 ∷ 124 ∷ []) (cond hex (hex_escape c) (c ∷ [])))
some_written c true hex = omega arith
some_written c false true = omega arith
some_written c false false = omega arith

enough : (name : List ℕ) → length name ≤ length (flat_map in_bars name)
enough [] = omega arith
enough (c ∷ cs) =
    omega (arith, length-append (in_bars c) (flat_map in_bars cs), some_written c (c == 124) (c == 92 || (nat_lt c 32 || c == 127)), enough cs)

barred_text : (name : List ℕ) → quoted 124 (flat_map in_bars name ++ 124 ∷ []) ≡ Ok (name, [])
barred_text name =
    let text = flat_map in_bars name ++ 124 ∷ [] in
    read_in_bars name (byte_count text) [] (omega (arith, enough name, length-append (flat_map in_bars name) (124 ∷ []), length-le-encodes text, byte_count-encodes text))

barred_token : (text : List ℕ) → token (124 ∷ text) ≡ (quoted 124 text >>= λ found. Ok (Atomic (Name found.0 true), found.1))
unfolding token
barred_token text = refl

pub barred_read : (name : List ℕ) → token (barred name) ≡ Ok (Atomic (Name name true), [])
barred_read name =
    barred_token (flat_map in_bars name ++ 124 ∷ []) ∙ ap (λ (r : Result (List ℕ × List ℕ) Fault). r >>= λ found. Ok (Atomic (Name found.0 true), found.1)) (barred_text name)
