-- A token of the grammar is read as that token.
use Rattle.std.proofs.Common.{◌≡◌, ℕ, ◌≤◌, List, [], ◌∷◌, ◌++◌, Option, Some, None, Result, Ok, Bool, true, false, cond, refl, ap, ◌∙◌, subst, length, arith, ◌||◌, ◌==◌, ◌&&◌, not, inl, inr}
use Rattle.std.specs.Prelude.{codes}
use Rattle.std.specs.List.{list_all}
use Rattle.std.specs.Char.{to_ascii_lowercase, is_ascii_digit}
use Rattle.std.proofs.lemmas.Bool.{cond-true, cond-false, or_cases, or_from, or_left, or_right, and_from, and_left, and_right, eqb-true, eq-eqb, not-true, false_from_ne_true}
use Rattle.std.proofs.lemmas.Bool.Decides.{nat_tests}
use Rattle.std.proofs.lemmas.List.{length-append}
use Rattle.std.proofs.lemmas.Str.{length-le-encodes}
use Rattle.scheme_tokens.specs.Lexical.{is_one_of, is_hex_digit, is_delimiter, is_sign, is_initial, Ends, IsWord, Spells, is_inside, byte_count, TokenKind, Paren, VectorParen, BytesParen, Close, Dot, Skip, Marked, Quote, Quasi, Unquote, Splice, Atomic, Name, Numeral, Quoted, Character, Truth, IsBare, IsNumeral, IsCode, IsCharacter, IsCharacterName, IsElements, IsTruth, IsToken}
use Rattle.scheme_tokens.specs.Mirror.Words.{word_of, behind_word, spells, is_numeral, is_identifier}
use Rattle.scheme_tokens.specs.Mirror.Quoted.{Fault, ◌>>=◌}
use Rattle.scheme_tokens.specs.Mirror.Tokens.{word_kind, hash_kind, named, character_of, character, before, behind_bytes, bytes_or, hash_word, hash_token, string_token, bar_token, word_token, token}
use Rattle.scheme_tokens.proofs.Fronts.{byte_count-encodes}
use Rattle.scheme_tokens.proofs.SpellLaws.{member, marks}
use Rattle.scheme_tokens.proofs.Same.Ends.{behind-all, front-all}
use Rattle.scheme_tokens.proofs.Same.Elements.{code_scalar}
use Rattle.scheme_tokens.proofs.Same.ElementsRead.{elements_read}
use Rattle.scheme_tokens.proofs.Same.Words.{is_no, is_spelled, bare_identifier, numeral_test, test_numeral}
use Rattle.scheme_tokens.proofs.Same.Tokens.{lower_small}

not_both : (b : Bool) → b ≡ true → b ≡ false → ⊥
not_both b h k = cc

-- ---- words

no_mark : (p : ℕ → Bool) (c d : ℕ) → p c ≡ true → list_all (λ q. not (p q)) marks ≡ true → is_one_of marks d ≡ true → (c == d) ≡ false
no_mark p c d h k m = is_no p c d h (not-true (p d) (member (λ q. not (p q)) marks d m k))

-- a text whose first character passes a test that no mark passes begins with a word
pub word_first : (p : ℕ → Bool) (c : ℕ) (cs : List ℕ) → p c ≡ true → list_all (λ q. not (p q)) marks ≡ true → token (c ∷ cs) ≡ word_token (c ∷ cs)
unfolding token
word_first p c cs h k =
    cond-false (c == 40) _ _ (no_mark p c 40 h k refl) ∙ cond-false (c == 41) _ _ (no_mark p c 41 h k refl) ∙ cond-false (c == 39) _ _ (no_mark p c 39 h k refl)
    ∙ cond-false (c == 96) _ _ (no_mark p c 96 h k refl) ∙ cond-false (c == 44) _ _ (no_mark p c 44 h k refl) ∙ cond-false (c == 34) _ _ (no_mark p c 34 h k refl)
    ∙ cond-false (c == 124) _ _ (no_mark p c 124 h k refl) ∙ cond-false (c == 35) _ _ (no_mark p c 35 h k refl)

-- a word before what delimits it
pub word_read : (word rest : List ℕ) → IsWord word rest → word_token (word ++ rest) ≡ before rest (word_kind word)
word_read word rest h = (λ i. before (behind-all is_inside word rest h.0 h.1 i) (word_kind (front-all is_inside word rest h.0 h.1 i)))

at_word : (p : ℕ → Bool) (c : ℕ) (cs rest : List ℕ) (k : TokenKind) → p c ≡ true → list_all (λ q. not (p q)) marks ≡ true → IsWord (c ∷ cs) rest → word_kind (c ∷ cs) ≡ Ok k → token (c ∷ cs ++ rest) ≡ Ok (k, rest)
at_word p c cs rest k h m w e = word_first p c (cs ++ rest) h m ∙ word_read (c ∷ cs) rest w ∙ ap (before rest) e

initial_no_mark : list_all (λ q. not (is_initial q)) marks ≡ true
unfolding is_initial
initial_no_mark = refl

bare_kind : {name : List ℕ} → IsBare name → (IsNumeral name → ⊥) → word_kind name ≡ Ok (Atomic (Name name false))
unfolding word_kind
bare_kind {name} h apart = cond-false (is_numeral name) _ _ (false_from_ne_true (is_numeral name) (λ e. apart (test_numeral name e))) ∙ cond-true (is_identifier name) _ _ (bare_identifier h)

numeral_kind : {text : List ℕ} → IsNumeral text → word_kind text ≡ Ok (Atomic (Numeral text))
unfolding word_kind
numeral_kind {text} h = cond-true (is_numeral text) _ _ (numeral_test h)

bare_read : {name : List ℕ} → IsBare name → (rest : List ℕ) → IsWord name rest → word_kind name ≡ Ok (Atomic (Name name false)) → token (name ++ rest) ≡ Ok (Atomic (Name name false), rest)
bare_read (IsBare.ordinary c cs h k) rest w e = at_word is_initial c cs rest (Atomic (Name (c ∷ cs) false)) h initial_no_mark w e
bare_read (IsBare.sign s h) rest w e = at_word is_sign s [] rest (Atomic (Name (s ∷ []) false)) h refl w e
bare_read (IsBare.signed s c cs h k l) rest w e = at_word is_sign s (c ∷ cs) rest (Atomic (Name (s ∷ c ∷ cs) false)) h refl w e
bare_read (IsBare.signed_dot s c cs h k l) rest w e = at_word is_sign s (46 ∷ c ∷ cs) rest (Atomic (Name (s ∷ 46 ∷ c ∷ cs) false)) h refl w e
bare_read (IsBare.dot c cs h k) rest w e = at_word (λ q. q == 46) 46 (c ∷ cs) rest (Atomic (Name (46 ∷ c ∷ cs) false)) refl refl w e

-- ---- words that begin with `#`

-- a letter that goes on a boolean or a numeral behind `#`
abbrev pub goes_on : ℕ → Bool
goes_on c = is_one_of (codes "bodxeitf") (to_ascii_lowercase c)

digit_kept : (c : ℕ) → is_ascii_digit c ≡ true → goes_on c ≡ false
digit_kept c h = grind (arith, nat_tests)

no_digit : (c : ℕ) → goes_on c ≡ true → is_ascii_digit c ≡ false
no_digit c h = false_from_ne_true (is_ascii_digit c) (λ e. not_both (goes_on c) h (digit_kept c e))

hash_step : (c : ℕ) (cs : List ℕ) → goes_on c ≡ true → token (35 ∷ c ∷ cs) ≡ hash_word (word_of (35 ∷ c ∷ cs)) (behind_word (35 ∷ c ∷ cs))
unfolding token hash_token
hash_step c cs h =
    cond-false (c == 40) _ _ (is_no goes_on c 40 h refl) ∙ cond-false (c == 59) _ _ (is_no goes_on c 59 h refl) ∙ cond-false (c == 92) _ _ (is_no goes_on c 92 h refl)
    ∙ cond-false (c == 33) _ _ (is_no goes_on c 33 h refl) ∙ cond-false (is_ascii_digit c) _ _ (no_digit c h)

-- the letter isn't another one
no_letter : (c d : ℕ) → goes_on c ≡ true → is_one_of (codes "bodxeitf") d ≡ false → (to_ascii_lowercase c == d) ≡ false
no_letter c d h k = is_no (is_one_of (codes "bodxeitf")) (to_ascii_lowercase c) d h k

no_u8 : (c : ℕ) (cs : List ℕ) → goes_on c ≡ true → spells (codes "#u8") (35 ∷ c ∷ cs) ≡ false
no_u8 c cs h = and_left (to_ascii_lowercase c == 117) _ (no_letter c 117 h refl)

no_bytes : (c : ℕ) (cs rest : List ℕ) → goes_on c ≡ true → behind_bytes (35 ∷ c ∷ cs) rest ≡ None
no_bytes c cs [] h = refl
no_bytes c cs (d ∷ ds) h = cond-false (d == 40 && spells (codes "#u8") (35 ∷ c ∷ cs)) _ _ (and_right (d == 40) _ (no_u8 c cs h))

hash_read : (c : ℕ) (cs rest : List ℕ) → goes_on c ≡ true → IsWord (35 ∷ c ∷ cs) rest → token (35 ∷ c ∷ (cs ++ rest)) ≡ before rest (hash_kind (35 ∷ c ∷ cs))
hash_read c cs rest h w =
    hash_step c (cs ++ rest) h
    ∙ (λ i. hash_word (front-all is_inside (35 ∷ c ∷ cs) rest w.0 w.1 i) (behind-all is_inside (35 ∷ c ∷ cs) rest w.0 w.1 i))
    ∙ ap (λ (o : Option (List ℕ)). bytes_or o (before rest (hash_kind (35 ∷ c ∷ cs)))) (no_bytes c cs rest h)

-- ---- numerals

kind_read : (text rest : List ℕ) (r : Result TokenKind Fault) (k : TokenKind) → token (text ++ rest) ≡ before rest r → r ≡ Ok k → token (text ++ rest) ≡ Ok (k, rest)
kind_read text rest r k e f = e ∙ ap (before rest) f

abbrev exactness : ℕ → Bool
exactness c = is_one_of (codes "bodxei") (to_ascii_lowercase c)

exactness_goes : (c : ℕ) → exactness c ≡ true → goes_on c ≡ true
exactness_goes c h = elim (or_cases (to_ascii_lowercase c == 98) _ h) [
  | inl e ↦ ap (is_one_of (codes "bodxeitf")) (eqb-true (to_ascii_lowercase c) 98 e)
  | inr e ↦ elim (or_cases (to_ascii_lowercase c == 111) _ e) [
    | inl f ↦ ap (is_one_of (codes "bodxeitf")) (eqb-true (to_ascii_lowercase c) 111 f)
    | inr f ↦ elim (or_cases (to_ascii_lowercase c == 100) _ f) [
      | inl g ↦ ap (is_one_of (codes "bodxeitf")) (eqb-true (to_ascii_lowercase c) 100 g)
      | inr g ↦ elim (or_cases (to_ascii_lowercase c == 120) _ g) [
        | inl j ↦ ap (is_one_of (codes "bodxeitf")) (eqb-true (to_ascii_lowercase c) 120 j)
        | inr j ↦ elim (or_cases (to_ascii_lowercase c == 101) _ j) [
          | inl k ↦ ap (is_one_of (codes "bodxeitf")) (eqb-true (to_ascii_lowercase c) 101 k)
          | inr k ↦ elim (or_cases (to_ascii_lowercase c == 105) false k) [ inl l ↦ ap (is_one_of (codes "bodxeitf")) (eqb-true (to_ascii_lowercase c) 105 l) | inr l ↦ cc ]
        ]
      ]
    ]
  ]
]

prefixed_kind : (c : ℕ) (cs : List ℕ) → exactness c ≡ true → hash_kind (35 ∷ c ∷ cs) ≡ Ok (Atomic (Numeral (35 ∷ c ∷ cs)))
unfolding hash_kind
prefixed_kind c cs h =
    let t = is_no (is_one_of (codes "bodxei")) (to_ascii_lowercase c) 116 h refl in
    let f = is_no (is_one_of (codes "bodxei")) (to_ascii_lowercase c) 102 h refl in
    cond-false (spells (codes "#t") (35 ∷ c ∷ cs) || spells (codes "#true") (35 ∷ c ∷ cs)) _ _ (or_from _ _ (and_left (to_ascii_lowercase c == 116) _ t) (and_left (to_ascii_lowercase c == 116) _ t))
    ∙ cond-false (spells (codes "#f") (35 ∷ c ∷ cs) || spells (codes "#false") (35 ∷ c ∷ cs)) _ _ (or_from _ _ (and_left (to_ascii_lowercase c == 102) _ f) (and_left (to_ascii_lowercase c == 102) _ f))
    ∙ cond-true (is_numeral (35 ∷ c ∷ cs)) _ _ (numeral_test (IsNumeral.prefixed c cs h))

numeral_read : {text : List ℕ} → IsNumeral text → (rest : List ℕ) → IsWord text rest → word_kind text ≡ Ok (Atomic (Numeral text)) → token (text ++ rest) ≡ Ok (Atomic (Numeral text), rest)
numeral_read (IsNumeral.digit c cs h) rest w e = at_word is_ascii_digit c cs rest (Atomic (Numeral (c ∷ cs))) h refl w e
numeral_read (IsNumeral.point c cs h) rest w e = at_word (λ q. q == 46) 46 (c ∷ cs) rest (Atomic (Numeral (46 ∷ c ∷ cs))) refl refl w e
numeral_read (IsNumeral.signed s c cs h k) rest w e = at_word is_sign s (c ∷ cs) rest (Atomic (Numeral (s ∷ c ∷ cs))) h refl w e
numeral_read (IsNumeral.signed_point s c cs h k) rest w e = at_word is_sign s (46 ∷ c ∷ cs) rest (Atomic (Numeral (s ∷ 46 ∷ c ∷ cs))) h refl w e
numeral_read (IsNumeral.prefixed c cs h) rest w e =
    hash_read c cs rest (exactness_goes c h) w ∙ ap (before rest) (prefixed_kind c cs h)
numeral_read (IsNumeral.infinite s cs more h k) rest w e = at_word is_sign s (cs ++ more) rest (Atomic (Numeral (s ∷ (cs ++ more)))) h refl w e
numeral_read (IsNumeral.no_number s cs more h k) rest w e = at_word is_sign s (cs ++ more) rest (Atomic (Numeral (s ∷ (cs ++ more)))) h refl w e
numeral_read (IsNumeral.imaginary s cs h k) rest w e = at_word is_sign s cs rest (Atomic (Numeral (s ∷ cs))) h refl w e

-- ---- booleans

true_kind : (word : List ℕ) → IsTruth true word → hash_kind word ≡ Ok (Atomic (Truth true))
unfolding hash_kind
true_kind word (inl h) = cond-true (spells (codes "#t") word || spells (codes "#true") word) _ _ (or_left (spells (codes "#t") word) _ (is_spelled (codes "#t") word h))
true_kind word (inr h) = cond-true (spells (codes "#t") word || spells (codes "#true") word) _ _ (or_right (spells (codes "#t") word) _ (is_spelled (codes "#true") word h))

false_kind : (c : ℕ) (cs : List ℕ) → to_ascii_lowercase c ≡ 102 → IsTruth false (35 ∷ c ∷ cs) → hash_kind (35 ∷ c ∷ cs) ≡ Ok (Atomic (Truth false))
unfolding hash_kind
false_kind c cs e h =
    let t = ap (λ (q : ℕ). q == 116) e in
    let word = 35 ∷ c ∷ cs in
    cond-false (spells (codes "#t") word || spells (codes "#true") word) _ _ (or_from _ _ (and_left (to_ascii_lowercase c == 116) _ t) (and_left (to_ascii_lowercase c == 116) _ t))
    ∙ cond-true (spells (codes "#f") word || spells (codes "#false") word) _ _ (elim h [
      | inl k ↦ or_left (spells (codes "#f") word) _ (is_spelled (codes "#f") word k)
      | inr k ↦ or_right (spells (codes "#f") word) _ (is_spelled (codes "#false") word k)
    ])

-- a word that spells letters behind `#`
hash_letter : (letters : List ℕ) (d : ℕ) (word : List ℕ) → Spells (35 ∷ d ∷ letters) word → (c : ℕ) × (cs : List ℕ) × (word ≡ 35 ∷ c ∷ cs) × (to_ascii_lowercase c ≡ d)
hash_letter letters d [] h = cc
hash_letter letters d (a ∷ []) h = cc
hash_letter letters d (a ∷ c ∷ cs) h =
    let hash : to_ascii_lowercase a ≡ 35 = cc in
    let letter : to_ascii_lowercase c ≡ d = cc in
    (c, cs, ap (λ (q : ℕ). q ∷ c ∷ cs) (lower_small a 35 (omega arith) hash), letter)

truth_letter : (b : Bool) (word : List ℕ) → IsTruth b word → (c : ℕ) × (cs : List ℕ) × (word ≡ 35 ∷ c ∷ cs) × (to_ascii_lowercase c ≡ cond b 116 102)
truth_letter true word (inl h) = hash_letter [] 116 word h
truth_letter true word (inr h) = hash_letter (codes "rue") 116 word h
truth_letter false word (inl h) = hash_letter [] 102 word h
truth_letter false word (inr h) = hash_letter (codes "alse") 102 word h

truth_kind : (b : Bool) (c : ℕ) (cs : List ℕ) → to_ascii_lowercase c ≡ cond b 116 102 → IsTruth b (35 ∷ c ∷ cs) → hash_kind (35 ∷ c ∷ cs) ≡ Ok (Atomic (Truth b))
truth_kind true c cs e h = true_kind (35 ∷ c ∷ cs) h
truth_kind false c cs e h = false_kind c cs e h

truth_goes : (b : Bool) (c : ℕ) → to_ascii_lowercase c ≡ cond b 116 102 → goes_on c ≡ true
truth_goes true c e = ap (is_one_of (codes "bodxeitf")) e
truth_goes false c e = ap (is_one_of (codes "bodxeitf")) e

truth_read : (b : Bool) (word rest : List ℕ) → IsTruth b word → IsWord word rest → token (word ++ rest) ≡ Ok (Atomic (Truth b), rest)
truth_read b word rest h w =
    let first = truth_letter b word h in
    let e = first.2 in
    ap (λ (q : List ℕ). token (q ++ rest)) e ∙ hash_read first.0 first.1 rest (truth_goes b first.0 first.3) (subst (λ (q : List ℕ). IsWord q rest) e w)
    ∙ ap (before rest) (truth_kind b first.0 first.1 first.3 (subst (IsTruth b) e h))

-- ---- characters

abbrev character_text : List ℕ → Option ℕ
character_text [] = None
character_text (c ∷ cs) = character_of c cs

code_text : (x c : ℕ) (digits : List ℕ) → to_ascii_lowercase x ≡ 120 → IsCode digits c → character_of x digits ≡ Some c
unfolding character_of
code_text x c [] lower h = absurd (h.some refl)
code_text x c (d ∷ ds) lower h =
    cond-true (to_ascii_lowercase x == 120 && list_all is_hex_digit (d ∷ ds)) _ _ (and_from (to_ascii_lowercase x == 120) (list_all is_hex_digit (d ∷ ds)) (eq-eqb (to_ascii_lowercase x) 120 lower) h.all)
    ∙ code_scalar (d ∷ ds) c h

named_text : {name : List ℕ} {c : ℕ} → IsCharacterName name c → character_text name ≡ Some c
unfolding character_of named
named_text IsCharacterName.alarm = refl
named_text IsCharacterName.backspace = refl
named_text IsCharacterName.delete = refl
named_text IsCharacterName.escape = refl
named_text IsCharacterName.newline = refl
named_text IsCharacterName.null = refl
named_text IsCharacterName.return = refl
named_text IsCharacterName.space = refl
named_text IsCharacterName.tab = refl

character_read : {text : List ℕ} {c : ℕ} → IsCharacter text c → character_text text ≡ Some c
unfolding character_of
character_read (IsCharacter.itself c) = refl
character_read (IsCharacter.code x c digits lower h) = code_text x c digits lower h
character_read (IsCharacter.named name c h) = named_text h

slash_step : (d : ℕ) (cs : List ℕ) → token (35 ∷ 92 ∷ d ∷ cs) ≡ before (behind_word cs) (character (character_of d (word_of cs)))
unfolding token hash_token
slash_step d cs = refl

slash_read : (d c : ℕ) (word rest : List ℕ) → IsCharacter (d ∷ word) c → IsWord word rest → token (35 ∷ 92 ∷ d ∷ (word ++ rest)) ≡ Ok (Atomic (Character c), rest)
slash_read d c word rest h w =
    slash_step d (word ++ rest)
    ∙ (λ i. before (behind-all is_inside word rest w.0 w.1 i) (character (character_of d (front-all is_inside word rest w.0 w.1 i))))
    ∙ ap (λ (o : Option ℕ). before rest (character o)) (character_read h)

-- ---- strings and bars

long_enough : (cs rest : List ℕ) → length cs ≤ byte_count (cs ++ rest)
long_enough cs rest = omega (arith, length-le-encodes (cs ++ rest), byte_count-encodes (cs ++ rest), length-append cs rest)

string_step : (cs : List ℕ) → token (34 ∷ cs) ≡ string_token cs
unfolding token
string_step cs = refl

bar_step : (cs : List ℕ) → token (124 ∷ cs) ≡ bar_token cs
unfolding token
bar_step cs = refl

string_read : (cs text rest : List ℕ) → IsElements 34 cs text → token (34 ∷ (cs ++ rest)) ≡ Ok (Atomic (Quoted text), rest)
string_read cs text rest h =
    string_step (cs ++ rest) ∙ ap (λ (r : Result (List ℕ × List ℕ) Fault). r >>= λ found. Ok (Atomic (Quoted found.0), found.1)) (elements_read h refl (byte_count (cs ++ rest)) rest (long_enough cs rest))

bar_read : (cs name rest : List ℕ) → IsElements 124 cs name → token (124 ∷ (cs ++ rest)) ≡ Ok (Atomic (Name name true), rest)
bar_read cs name rest h =
    bar_step (cs ++ rest) ∙ ap (λ (r : Result (List ℕ × List ℕ) Fault). r >>= λ found. Ok (Atomic (Name found.0 true), found.1)) (elements_read h refl (byte_count (cs ++ rest)) rest (long_enough cs rest))

-- ---- the others

paren_read : (rest : List ℕ) → token (40 ∷ rest) ≡ Ok (Paren, rest)
unfolding token
paren_read rest = refl

close_read : (rest : List ℕ) → token (41 ∷ rest) ≡ Ok (Close, rest)
unfolding token
close_read rest = refl

quote_read : (rest : List ℕ) → token (39 ∷ rest) ≡ Ok (Marked Quote, rest)
unfolding token
quote_read rest = refl

quasi_read : (rest : List ℕ) → token (96 ∷ rest) ≡ Ok (Marked Quasi, rest)
unfolding token
quasi_read rest = refl

splice_read : (rest : List ℕ) → token (44 ∷ 64 ∷ rest) ≡ Ok (Marked Splice, rest)
unfolding token
splice_read rest = refl

unquote_read : (rest : List ℕ) → Ends (λ c. c == 64) rest → token (44 ∷ rest) ≡ Ok (Marked Unquote, rest)
unfolding token
unquote_read [] h = refl
unquote_read (c ∷ cs) h = cond-false (c == 64) _ _ h

vector_read : (rest : List ℕ) → token (35 ∷ 40 ∷ rest) ≡ Ok (VectorParen, rest)
unfolding token hash_token
vector_read rest = refl

skip_read : (rest : List ℕ) → token (35 ∷ 59 ∷ rest) ≡ Ok (Skip, rest)
unfolding token hash_token
skip_read rest = refl

bytes_read : (rest : List ℕ) → token (35 ∷ 117 ∷ 56 ∷ 40 ∷ rest) ≡ Ok (BytesParen, rest)
unfolding token hash_token is_delimiter
bytes_read rest = refl

big_bytes_read : (rest : List ℕ) → token (35 ∷ 85 ∷ 56 ∷ 40 ∷ rest) ≡ Ok (BytesParen, rest)
unfolding token hash_token is_delimiter
big_bytes_read rest = refl

dot_kind : word_kind (46 ∷ []) ≡ Ok Dot
unfolding word_kind is_numeral is_identifier
dot_kind = refl

dot_inside : list_all is_inside (46 ∷ []) ≡ true
unfolding is_delimiter
dot_inside = refl

dot_read : (rest : List ℕ) → Ends is_inside rest → token (46 ∷ rest) ≡ Ok (Dot, rest)
dot_read rest h = at_word (λ q. q == 46) 46 [] rest Dot refl refl (dot_inside, h) dot_kind

-- the characters of a token are read as that token
pub token_read : (k : TokenKind) (glyphs rest : List ℕ) → IsToken k glyphs rest → token (glyphs ++ rest) ≡ Ok (k, rest)
token_read Paren glyphs rest h = ap (λ (q : List ℕ). token (q ++ rest)) h ∙ paren_read rest
token_read VectorParen glyphs rest h = ap (λ (q : List ℕ). token (q ++ rest)) h ∙ vector_read rest
token_read BytesParen glyphs rest (inl h) = ap (λ (q : List ℕ). token (q ++ rest)) h ∙ bytes_read rest
token_read BytesParen glyphs rest (inr h) = ap (λ (q : List ℕ). token (q ++ rest)) h ∙ big_bytes_read rest
token_read Close glyphs rest h = ap (λ (q : List ℕ). token (q ++ rest)) h ∙ close_read rest
token_read Dot glyphs rest h = ap (λ (q : List ℕ). token (q ++ rest)) h.0 ∙ dot_read rest h.1
token_read Skip glyphs rest h = ap (λ (q : List ℕ). token (q ++ rest)) h ∙ skip_read rest
token_read (Marked Quote) glyphs rest h = ap (λ (q : List ℕ). token (q ++ rest)) h ∙ quote_read rest
token_read (Marked Quasi) glyphs rest h = ap (λ (q : List ℕ). token (q ++ rest)) h ∙ quasi_read rest
token_read (Marked Unquote) glyphs rest h = ap (λ (q : List ℕ). token (q ++ rest)) h.0 ∙ unquote_read rest h.1
token_read (Marked Splice) glyphs rest h = ap (λ (q : List ℕ). token (q ++ rest)) h ∙ splice_read rest
token_read (Atomic (Name name true)) glyphs rest h = ap (λ (q : List ℕ). token (q ++ rest)) h.1 ∙ bar_read h.0 name rest h.2
token_read (Atomic (Name name false)) glyphs rest h = ap (λ (q : List ℕ). token (q ++ rest)) h.0 ∙ bare_read h.1 rest h.3 (bare_kind h.1 h.2)
token_read (Atomic (Numeral text)) glyphs rest h = ap (λ (q : List ℕ). token (q ++ rest)) h.0 ∙ numeral_read h.1 rest h.2 (numeral_kind h.1)
token_read (Atomic (Quoted text)) glyphs rest h = ap (λ (q : List ℕ). token (q ++ rest)) h.1 ∙ string_read h.0 text rest h.2
token_read (Atomic (Character c)) glyphs rest h = ap (λ (q : List ℕ). token (q ++ rest)) h.2 ∙ slash_read h.0 c h.1 rest h.3 h.4
token_read (Atomic (Truth b)) glyphs rest h = truth_read b glyphs rest h.0 h.1
