-- A token takes a character at least.
use Rattle.std.proofs.Common.{◌≡◌, ℕ, ◌≤◌, length, List, [], ◌∷◌, Bool, true, false, cond, Option, Some, None, Result, Ok, Err, refl, ap, arith, ◌==◌, ◌&&◌}
use Rattle.std.proofs.lemmas.Bool.{cond-true}
use Rattle.std.specs.Char.{is_ascii_digit}
use Rattle.std.specs.Prelude.{codes}
use Rattle.scheme_tokens.specs.Mirror.Words.{byte_count, behind_word, word_of, is_inside, spells}
use Rattle.scheme_tokens.specs.Mirror.Quoted.{Fault, ◌>>=◌, quoted}
use Rattle.scheme_tokens.specs.Mirror.Tokens.{TokenKind, word_kind, hash_kind, character, character_of, before, behind_hash_slash, behind_bytes, bytes_or, hash_word, hash_token, unquote_token, string_token, bar_token, word_token, token}
use Rattle.scheme_tokens.proofs.QuotedLengths.{Rests, rests_more, rests_if, behind_shorter, elements_rest}
use Rattle.scheme_tokens.proofs.TokenLaws.{word_kind-none, hash_inside}

-- the kinds of tokens
kept_rests : {A B : Type 0} (n : ℕ) (kind : A → B) (r : Result (A × List ℕ) Fault) → Rests n r → Rests n (r >>= λ t. Ok (kind t.0, t.1))
kept_rests n kind (Ok t) h = h
kept_rests n kind (Err fault) h = tt

before_rests : (n : ℕ) (rest : List ℕ) (kind : Result TokenKind Fault) → length rest ≤ n → Rests n (before rest kind)
before_rests n rest (Ok kind) h = h
before_rests n rest (Err fault) h = tt

unquote_rests : (cs : List ℕ) → Rests (length cs) (unquote_token cs)
unquote_rests [] = omega arith
unquote_rests (c ∷ cs) = rests_if (length (c ∷ cs)) (c == 64) (Ok (_, cs)) (Ok (_, c ∷ cs)) (omega arith) (omega arith)

string_rests : (cs : List ℕ) → Rests (length cs) (string_token cs)
string_rests cs = kept_rests (length cs) _ (quoted 34 cs) (elements_rest (byte_count cs) 34 cs)

bar_rests : (cs : List ℕ) → Rests (length cs) (bar_token cs)
bar_rests cs = kept_rests (length cs) _ (quoted 124 cs) (elements_rest (byte_count cs) 124 cs)

slash_rests : (cs : List ℕ) → Rests (length cs) (behind_hash_slash cs)
slash_rests [] = tt
slash_rests (c ∷ cs) = before_rests (length (c ∷ cs)) (behind_word cs) (character (character_of c (word_of cs))) (omega (arith, behind_shorter is_inside cs))

bytes_or_rests : (n : ℕ) (o : Option (List ℕ)) (r : Result (TokenKind × List ℕ) Fault) → ((rest : List ℕ) → o ≡ Some rest → length rest ≤ n) → Rests n r → Rests n (bytes_or o r)
bytes_or_rests n None r h k = k
bytes_or_rests n (Some rest) r h k = h rest refl

some_shorter : (b : Bool) (c : ℕ) (cs rest : List ℕ) → cond b (Some cs) None ≡ Some rest → length rest ≤ length (c ∷ cs)
some_shorter true c cs rest e = let same : cs ≡ rest = cc in omega (arith, ap length same)
some_shorter false c cs rest e = cc

opening_shorter : (word cs rest : List ℕ) → behind_bytes word cs ≡ Some rest → length rest ≤ length cs
opening_shorter word [] rest e = cc
opening_shorter word (c ∷ cs) rest e = some_shorter (c == 40 && spells (codes "#u8") word) c cs rest e

hash_word_rests : (n : ℕ) (word rest : List ℕ) → length rest ≤ n → Rests n (hash_word word rest)
hash_word_rests n word rest h =
    bytes_or_rests n (behind_bytes word rest) (before rest (hash_kind word)) (λ cs e. omega (arith, opening_shorter word rest cs e)) (before_rests n rest (hash_kind word) h)

behind_hash : (cs : List ℕ) → length (behind_word (35 ∷ cs)) ≤ length cs
behind_hash cs = omega (arith, ap length (cond-true (is_inside 35) (behind_word cs) (35 ∷ cs) hash_inside), behind_shorter is_inside cs)

hash_rests : (cs : List ℕ) → Rests (length cs) (hash_token cs)
unfolding hash_token
hash_rests [] = tt
hash_rests (c ∷ cs) =
    let n = length (c ∷ cs) in
    rests_if n (c == 40) (Ok (_, cs)) _ (omega arith)
    (rests_if n (c == 59) (Ok (_, cs)) _ (omega arith)
    (rests_if n (c == 92) (behind_hash_slash cs) _ (rests_more (length cs) n (behind_hash_slash cs) (omega arith) (slash_rests cs))
    (rests_if n (c == 33) (Err _) _ tt
    (rests_if n (is_ascii_digit c) (Err _) _ tt (hash_word_rests n (word_of (35 ∷ c ∷ cs)) (behind_word (35 ∷ c ∷ cs)) (behind_hash (c ∷ cs)))))))

none_rests : (n : ℕ) (rest : List ℕ) (kind : Result TokenKind Fault) → ((k : TokenKind) → kind ≡ Ok k → ⊥) → Rests n (before rest kind)
none_rests n rest (Ok k) h = absurd (h k refl)
none_rests n rest (Err fault) h = tt

-- a word with no characters is no token
word_if : (b : Bool) (c : ℕ) (cs xs ys : List ℕ) → length ys ≤ length cs → Rests (length cs) (before (cond b ys (c ∷ cs)) (word_kind (cond b (c ∷ xs) [])))
word_if true c cs xs ys h = before_rests (length cs) ys (word_kind (c ∷ xs)) h
word_if false c cs xs ys h = none_rests (length cs) (c ∷ cs) (word_kind []) (λ k e. word_kind-none [] k refl e)

word_rests : (c : ℕ) (cs : List ℕ) → Rests (length cs) (word_token (c ∷ cs))
word_rests c cs = word_if (is_inside c) c cs (word_of cs) (behind_word cs) (behind_shorter is_inside cs)

-- a token takes a character
pub token_rests : (c : ℕ) (cs : List ℕ) → Rests (length cs) (token (c ∷ cs))
unfolding token
token_rests c cs =
    let n = length cs in
    rests_if n (c == 40) (Ok (_, cs)) _ (omega arith)
    (rests_if n (c == 41) (Ok (_, cs)) _ (omega arith)
    (rests_if n (c == 39) (Ok (_, cs)) _ (omega arith)
    (rests_if n (c == 96) (Ok (_, cs)) _ (omega arith)
    (rests_if n (c == 44) (unquote_token cs) _ (unquote_rests cs)
    (rests_if n (c == 34) (string_token cs) _ (string_rests cs)
    (rests_if n (c == 124) (bar_token cs) _ (bar_rests cs)
    (rests_if n (c == 35) (hash_token cs) (word_token (c ∷ cs)) (hash_rests cs) (word_rests c cs))))))))
