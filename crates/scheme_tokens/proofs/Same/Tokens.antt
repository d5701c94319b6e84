-- The token that the code reads at the front of a text is one of the grammar.
use Rattle.std.proofs.Common.{◌≡◌, ℕ, ◌<◌, List, [], ◌∷◌, ◌++◌, Option, Some, None, Result, Ok, Err, Bool, true, false, refl, sym, ap, ◌∙◌, subst, arith, ◌||◌, ◌==◌, ◌&&◌, ◌⊎◌, inl, inr}
use Rattle.std.specs.Prelude.{codes, nat_lt}
use Rattle.std.specs.List.{list_all}
use Rattle.std.specs.Char.{to_ascii_lowercase, is_ascii_digit}
use Rattle.std.proofs.lemmas.Bool.{cond_both, or_cases, and_parts, eqb-true, ltb-false}
use Rattle.scheme_tokens.specs.Lexical.{is_hex_digit, IsWord, Spells, is_inside, byte_count, TokenKind, Paren, BytesParen, Close, Marked, Quote, Quasi, Atomic, Name, Quoted, IsCharacter, IsToken}
use Rattle.scheme_tokens.specs.Mirror.Words.{word_of, behind_word, is_text, spells, is_numeral, is_identifier}
use Rattle.scheme_tokens.specs.Mirror.Quoted.{Fault, ◌>>=◌, hex_scalar, quoted}
use Rattle.scheme_tokens.specs.Mirror.Tokens.{word_kind, hash_kind, named, character_of, character, before, behind_hash_slash, bytes_or, hash_word, hash_token, unquote_token, string_token, bar_token, word_token, token}
use Rattle.scheme_tokens.proofs.Fronts.{front-behind, list_all-front_of}
use Rattle.scheme_tokens.proofs.Same.Ends.{ends-behind}
use Rattle.scheme_tokens.proofs.Same.Elements.{AllTold, elements_told, scalar_code}
use Rattle.scheme_tokens.proofs.Same.Words.{text_is, spells_is, test_numeral, numeral_test, identifier_bare, NameTold, named_told}

not_both : (b : Bool) → b ≡ true → b ≡ false → ⊥
not_both b h k = cc

-- a token at the front of a text, and the text behind it
abbrev pub Told : List ℕ → Result (TokenKind × List ℕ) Fault → Type 0
Told text (Ok t) = (glyphs : List ℕ) × (text ≡ glyphs ++ t.1) × IsToken t.0 glyphs t.1
Told text (Err f) = Unit {0}

-- a word that is a token
abbrev KindTold : List ℕ → List ℕ → Result TokenKind Fault → Type 0
KindTold word rest (Ok k) = IsToken k word rest
KindTold word rest (Err f) = Unit {0}

before_told : (text word rest : List ℕ) (kind : Result TokenKind Fault) → text ≡ word ++ rest → KindTold word rest kind → Told text (before rest kind)
before_told text word rest (Ok k) e h = (word, e, h)
before_told text word rest (Err f) e h = tt

-- ---- words

pub a_word : (text : List ℕ) → IsWord (word_of text) (behind_word text)
a_word text = (list_all-front_of is_inside text, ends-behind is_inside text)

word_kind_told : (word rest : List ℕ) → IsWord word rest → KindTold word rest (word_kind word)
unfolding word_kind
word_kind_told word rest h =
    cond_both (is_numeral word) _ _ (KindTold word rest) (λ e. (refl, test_numeral word e, h))
    (λ no. cond_both (is_identifier word) _ _ (KindTold word rest) (λ e. (refl, identifier_bare word e, (λ n. not_both (is_numeral word) (numeral_test n) no), h))
    (λ _. cond_both (is_text word (codes ".")) _ _ (KindTold word rest) (λ e. (text_is word (codes ".") e, h.1)) (λ _. tt)))

word_told : (text : List ℕ) → Told text (word_token text)
word_told text = before_told text (word_of text) (behind_word text) (word_kind (word_of text)) (sym (front-behind is_inside text)) (word_kind_told (word_of text) (behind_word text) (a_word text))

hash_kind_told : (word rest : List ℕ) → IsWord word rest → KindTold word rest (hash_kind word)
unfolding hash_kind
hash_kind_told word rest h =
    cond_both (spells (codes "#t") word || spells (codes "#true") word) _ _ (KindTold word rest) (λ e. (
      elim (or_cases (spells (codes "#t") word) (spells (codes "#true") word) e) [
        | inl f ↦ inl (spells_is (codes "#t") word f)
        | inr f ↦ inr (spells_is (codes "#true") word f)
      ],
      h,
    ))
    (λ _. cond_both (spells (codes "#f") word || spells (codes "#false") word) _ _ (KindTold word rest) (λ e. (
      elim (or_cases (spells (codes "#f") word) (spells (codes "#false") word) e) [
        | inl f ↦ inl (spells_is (codes "#f") word f)
        | inr f ↦ inr (spells_is (codes "#false") word f)
      ],
      h,
    ))
    (λ _. cond_both (is_numeral word) _ _ (KindTold word rest) (λ e. (refl, test_numeral word e, h)) (λ _. tt)))

-- ---- letters in either case

pub lower_small : (a n : ℕ) → n < 65 → to_ascii_lowercase a ≡ n → a ≡ n
lower_small a n small =
    cond_both (nat_lt a 65) _ _ (λ (v : ℕ). v ≡ n → a ≡ n) (λ _ e. e)
    (λ big. cond_both (nat_lt a 91) _ _ (λ (v : ℕ). v ≡ n → a ≡ n) (λ _ e. absurd (omega (arith, ltb-false a 65 big))) (λ _ e. e))

lower_u : (a : ℕ) → to_ascii_lowercase a ≡ 117 → (a ≡ 117) ⊎ (a ≡ 85)
lower_u a =
    cond_both (nat_lt a 65) _ _ (λ (v : ℕ). v ≡ 117 → (a ≡ 117) ⊎ (a ≡ 85)) (λ _ e. inl e)
    (λ _. cond_both (nat_lt a 91) _ _ (λ (v : ℕ). v ≡ 117 → (a ≡ 117) ⊎ (a ≡ 85)) (λ _ e. let x : a ≡ 85 = omega arith in inr x) (λ _ e. inl e))

-- ---- bytevectors

pub u8_is : (word : List ℕ) → Spells (codes "#u8") word → (word ≡ codes "#u8") ⊎ (word ≡ codes "#U8")
u8_is [] h = cc
u8_is (a ∷ []) h = cc
u8_is (a ∷ b ∷ []) h = cc
u8_is (a ∷ b ∷ c ∷ []) h =
    let hash : to_ascii_lowercase a ≡ 35 = cc in
    let u : to_ascii_lowercase b ≡ 117 = cc in
    let eight : to_ascii_lowercase c ≡ 56 = cc in
    let first = lower_small a 35 (omega arith) hash in
    let last = lower_small c 56 (omega arith) eight in
    elim (lower_u b u) [
      | inl e ↦ inl (λ i. first i ∷ e i ∷ last i ∷ [])
      | inr e ↦ inr (λ i. first i ∷ e i ∷ last i ∷ [])
    ]
u8_is (a ∷ b ∷ c ∷ d ∷ ds) h = cc

bytes_told : (text word : List ℕ) (c : ℕ) (cs : List ℕ) → text ≡ word ++ c ∷ cs → (c == 40 && spells (codes "#u8") word) ≡ true → Told text (Ok (BytesParen, cs))
bytes_told text word c cs e h =
    let parts = and_parts (c == 40) (spells (codes "#u8") word) h in
    let whole = e ∙ ap (λ (q : ℕ). word ++ q ∷ cs) (eqb-true c 40 parts.0) in
    elim (u8_is word (spells_is (codes "#u8") word parts.1)) [
      | inl f ↦ (codes "#u8(", whole ∙ ap (λ (q : List ℕ). q ++ 40 ∷ cs) f, inl refl)
      | inr f ↦ (codes "#U8(", whole ∙ ap (λ (q : List ℕ). q ++ 40 ∷ cs) f, inr refl)
    ]

hash_word_told : (text word rest : List ℕ) → text ≡ word ++ rest → IsWord word rest → Told text (hash_word word rest)
hash_word_told text word [] e h = before_told text word [] (hash_kind word) e (hash_kind_told word [] h)
hash_word_told text word (c ∷ cs) e h =
    cond_both (c == 40 && spells (codes "#u8") word) (Some cs) None (λ (o : Option (List ℕ)). Told text (bytes_or o (before (c ∷ cs) (hash_kind word)))) (λ f. bytes_told text word c cs e f)
    (λ _. before_told text word (c ∷ cs) (hash_kind word) e (hash_kind_told word (c ∷ cs) h))

-- ---- characters

abbrev CharacterTold : List ℕ → Option ℕ → Type 0
CharacterTold word None = Unit {0}
CharacterTold word (Some c) = IsCharacter word c

code_told : (x d : ℕ) (ds : List ℕ) (o : Option ℕ) → hex_scalar (d ∷ ds) ≡ o → (to_ascii_lowercase x == 120 && list_all is_hex_digit (d ∷ ds)) ≡ true → CharacterTold (x ∷ d ∷ ds) o
code_told x d ds None e h = tt
code_told x d ds (Some c) e h =
    let parts = and_parts (to_ascii_lowercase x == 120) (list_all is_hex_digit (d ∷ ds)) h in
    IsCharacter.code x c (d ∷ ds) (eqb-true (to_ascii_lowercase x) 120 parts.0) (scalar_code (d ∷ ds) c parts.1 e)

name_told : (name : List ℕ) (o : Option ℕ) → NameTold name o → CharacterTold name o
name_told name None h = tt
name_told name (Some c) h = IsCharacter.named name c h

character_of_told : (c : ℕ) (word : List ℕ) → CharacterTold (c ∷ word) (character_of c word)
unfolding character_of
character_of_told c [] = IsCharacter.itself c
character_of_told c (d ∷ ds) =
    cond_both (to_ascii_lowercase c == 120 && list_all is_hex_digit (d ∷ ds)) _ _ (CharacterTold (c ∷ d ∷ ds)) (λ e. code_told c d ds (hex_scalar (d ∷ ds)) refl e)
    (λ _. name_told (c ∷ d ∷ ds) (named (c ∷ d ∷ ds)) (named_told (c ∷ d ∷ ds)))

character_told : (c : ℕ) (word rest cs : List ℕ) (o : Option ℕ) → cs ≡ word ++ rest → IsWord word rest → CharacterTold (c ∷ word) o → Told (35 ∷ 92 ∷ c ∷ cs) (before rest (character o))
character_told c word rest cs None e h k = tt
character_told c word rest cs (Some m) e h k = (35 ∷ 92 ∷ c ∷ word, ap (λ (q : List ℕ). 35 ∷ 92 ∷ c ∷ q) e, (c, word, refl, k, h))

slash_told : (cs : List ℕ) → Told (35 ∷ 92 ∷ cs) (behind_hash_slash cs)
slash_told [] = tt
slash_told (c ∷ cs) = character_told c (word_of cs) (behind_word cs) cs (character_of c (word_of cs)) (sym (front-behind is_inside cs)) (a_word cs) (character_of_told c (word_of cs))

-- ---- what begins with a mark

hash_told : (cs : List ℕ) → Told (35 ∷ cs) (hash_token cs)
unfolding hash_token
hash_told [] = tt
hash_told (c ∷ cs) =
    let text = 35 ∷ c ∷ cs in
    cond_both (c == 40) _ _ (Told text) (λ e. (codes "#(", ap (λ (q : ℕ). 35 ∷ q ∷ cs) (eqb-true c 40 e), refl))
    (λ _. cond_both (c == 59) _ _ (Told text) (λ e. (codes "#;", ap (λ (q : ℕ). 35 ∷ q ∷ cs) (eqb-true c 59 e), refl))
    (λ _. cond_both (c == 92) _ _ (Told text) (λ e. subst (λ (q : ℕ). Told (35 ∷ q ∷ cs) (behind_hash_slash cs)) (sym (eqb-true c 92 e)) (slash_told cs))
    (λ _. cond_both (c == 33) _ _ (Told text) (λ _. tt)
    (λ _. cond_both (is_ascii_digit c) _ _ (Told text) (λ _. tt) (λ _. hash_word_told text (word_of text) (behind_word text) (sym (front-behind is_inside text)) (a_word text))))))

unquote_told : (cs : List ℕ) → Told (44 ∷ cs) (unquote_token cs)
unquote_told [] = (codes ",", refl, (refl, tt))
unquote_told (c ∷ cs) =
    cond_both (c == 64) _ _ (Told (44 ∷ c ∷ cs)) (λ e. (codes ",@", ap (λ (q : ℕ). 44 ∷ q ∷ cs) (eqb-true c 64 e), refl)) (λ e. (codes ",", refl, (refl, e)))

string_told : (cs : List ℕ) (r : Result (List ℕ × List ℕ) Fault) → AllTold 34 cs r → Told (34 ∷ cs) (r >>= λ found. Ok (Atomic (Quoted found.0), found.1))
string_told cs (Ok t) h = (34 ∷ h.0, ap (λ (q : List ℕ). 34 ∷ q) h.1, (h.0, refl, h.2))
string_told cs (Err f) h = tt

bar_told : (cs : List ℕ) (r : Result (List ℕ × List ℕ) Fault) → AllTold 124 cs r → Told (124 ∷ cs) (r >>= λ found. Ok (Atomic (Name found.0 true), found.1))
bar_told cs (Ok t) h = (124 ∷ h.0, ap (λ (q : List ℕ). 124 ∷ q) h.1, (h.0, refl, h.2))
bar_told cs (Err f) h = tt

first_is : (c d : ℕ) (cs : List ℕ) (r : Result (TokenKind × List ℕ) Fault) → (c == d) ≡ true → Told (d ∷ cs) r → Told (c ∷ cs) r
first_is c d cs r e h = subst (λ (q : ℕ). Told (q ∷ cs) r) (sym (eqb-true c d e)) h

-- what the code reads first is a token
pub token_told : (text : List ℕ) → Told text (token text)
unfolding token
token_told [] = tt
token_told (c ∷ cs) =
    let text = c ∷ cs in
    cond_both (c == 40) _ _ (Told text) (λ e. first_is c 40 cs (Ok (Paren, cs)) e (codes "(", refl, refl))
    (λ _. cond_both (c == 41) _ _ (Told text) (λ e. first_is c 41 cs (Ok (Close, cs)) e (codes ")", refl, refl))
    (λ _. cond_both (c == 39) _ _ (Told text) (λ e. first_is c 39 cs (Ok (Marked Quote, cs)) e (codes "'", refl, refl))
    (λ _. cond_both (c == 96) _ _ (Told text) (λ e. first_is c 96 cs (Ok (Marked Quasi, cs)) e (codes "`", refl, refl))
    (λ _. cond_both (c == 44) _ _ (Told text) (λ e. first_is c 44 cs (unquote_token cs) e (unquote_told cs))
    (λ _. cond_both (c == 34) _ _ (Told text) (λ e. first_is c 34 cs (string_token cs) e (string_told cs (quoted 34 cs) (elements_told (byte_count cs) 34 cs)))
    (λ _. cond_both (c == 124) _ _ (Told text) (λ e. first_is c 124 cs (bar_token cs) e (bar_told cs (quoted 124 cs) (elements_told (byte_count cs) 124 cs)))
    (λ _. cond_both (c == 35) _ _ (Told text) (λ e. first_is c 35 cs (hash_token cs) e (hash_told cs)) (λ _. word_told text))))))))
