-- Words as tokens, and what comes next in a text.
use Rattle.std.proofs.Common.{◌≡◌, ℕ, ◌<◌, List, [], ◌∷◌, Some, Result, Ok, Err, true, false, refl, sym, ap, ◌∙◌, arith, length, ◌==◌, ◌&&◌}
use Rattle.std.specs.List.{list_all}
use Rattle.std.specs.Str.{chars}
use Rattle.std.proofs.lemmas.Str.{chars-nil}
use Rattle.std.specs.Char.{to_ascii_lowercase}
use Rattle.std.proofs.lemmas.Bool.{cond-true, cond-false}
use Rattle.scheme_tokens.specs.Lexical.{is_hex_digit, is_delimiter}
use Rattle.scheme_tokens.specs.Mirror.Words.{is_numeral, is_identifier, is_inside}
use Rattle.scheme_tokens.specs.Mirror.Quoted.{Fault, bad_token, hex_scalar}
use Rattle.scheme_tokens.specs.Mirror.Tokens.{TokenKind, word_kind, named, character_of, token}
use Rattle.scheme_tokens.specs.Mirror.Reading.{next, next_behind, at_front, next_token}
use Rattle.scheme_tokens.specs.Mirror.Gaps.{between, behind_gap}

bad_no_token : (read : Result TokenKind Fault) (k : TokenKind) → read ≡ Err bad_token → read ≡ Ok k → ⊥
bad_no_token read k e h = cc

none_kind : word_kind [] ≡ Err bad_token
unfolding word_kind is_numeral is_identifier
none_kind = refl

-- no token without characters
pub word_kind-none : (word : List ℕ) (k : TokenKind) → word ≡ [] → word_kind word ≡ Ok k → ⊥
word_kind-none word k e h = bad_no_token (word_kind word) k (ap word_kind e ∙ none_kind) h

pub hash_inside : is_inside 35 ≡ true
unfolding is_delimiter
hash_inside = refl

pub character_of-none : (c : ℕ) (word : List ℕ) → word ≡ [] → Some c ≡ character_of c word
unfolding character_of
character_of-none c word e = ap (character_of c) (sym e)

pub character_of-code : (c d : ℕ) (word ds : List ℕ) → word ≡ d ∷ ds → (to_ascii_lowercase c == 120 && list_all is_hex_digit word) ≡ true → hex_scalar word ≡ character_of c word
unfolding character_of
character_of-code c d word ds e h =
    ap hex_scalar e ∙ sym (ap (character_of c) e ∙ cond-true (to_ascii_lowercase c == 120 && list_all is_hex_digit (d ∷ ds)) _ _ (ap (λ (q : List ℕ). to_ascii_lowercase c == 120 && list_all is_hex_digit q) (sym e) ∙ h))

pub character_of-name : (c d : ℕ) (word ds : List ℕ) → word ≡ d ∷ ds → (to_ascii_lowercase c == 120 && list_all is_hex_digit word) ≡ false → named (c ∷ word) ≡ character_of c word
unfolding character_of
character_of-name c d word ds e h =
    ap (λ (q : List ℕ). named (c ∷ q)) e ∙ sym (ap (character_of c) e ∙ cond-false (to_ascii_lowercase c == 120 && list_all is_hex_digit (d ∷ ds)) _ _ (ap (λ (q : List ℕ). to_ascii_lowercase c == 120 && list_all is_hex_digit q) (sym e) ∙ h))

pub at_front-token : (size d : ℕ) (text ds : List ℕ) → text ≡ d ∷ ds → at_front size text ≡ next_token size text (token text)
at_front-token size d text ds e = ap (at_front size) e ∙ ap (λ (q : List ℕ). next_token size q (token q)) (sym e)

-- a token's word has a byte
pub some_word : (word : List ℕ) (k : TokenKind) → word_kind (chars word) ≡ Ok k → 0 < length word
some_word [] k h = absurd (word_kind-none (chars []) k chars-nil h)
some_word (b ∷ bs) k h = omega arith

pub next-front : (size d : ℕ) (text front ds : List ℕ) → behind_gap between text ≡ Ok front → front ≡ d ∷ ds → next size text ≡ next_token size front (token front)
unfolding next
next-front size d text front ds gap e = ap (next_behind size) gap ∙ at_front-token size d front ds e
