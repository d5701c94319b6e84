-- Where a text that begins with no token stops.
use Rattle.std.proofs.Common.{◌≡◌, ℕ, List, [], ◌∷◌, Result, Err, true, false, refl, sym, ◌∙◌, subst, inl, inr, ◌==◌}
use Rattle.std.specs.Char.{is_ascii_digit, is_whitespace}
use Rattle.std.proofs.lemmas.Bool.{cond-true, cond-false, cond_both, eqb-true}
use Rattle.scheme_tokens.specs.Lexical.{TokenKind, Atomic, Truth, is_delimiter, is_inside}
use Rattle.std.specs.Prelude.{codes}
use Rattle.std.specs.List.{list_all}
use Rattle.scheme_tokens.specs.Faults.{Fault, bad_token, label, directive}
use Rattle.scheme_tokens.specs.Mirror.Tokens.{token, hash_token, unquote_token, string_token, bar_token, behind_hash_slash}
use Rattle.scheme_tokens.proofs.Same.Words.{is_no}
use Rattle.scheme_tokens.proofs.Same.GapsFound.{Dark}
use Rattle.scheme_tokens.proofs.Same.Scanned.{Goes, Refused}
use Rattle.scheme_tokens.proofs.Same.BadWords.{OrRefused, word_refused}
use Rattle.scheme_tokens.proofs.Same.BadHashes.{hash_refused}
use Rattle.scheme_tokens.proofs.Same.BadCharacters.{slash_refused}
use Rattle.scheme_tokens.proofs.Same.BadElements.{string_refused, bar_refused}

inside_t : list_all is_inside (codes "#t") ≡ true
unfolding is_delimiter
inside_t = refl

-- a `#` alone can go on
hash_goes : Goes (35 ∷ [])
hash_goes = inr (116 ∷ [], Atomic (Truth true), (inl refl, (inside_t, tt)))

unquote_refused : (cs : List ℕ) → OrRefused (44 ∷ cs) (unquote_token cs)
unquote_refused [] = tt
unquote_refused (c ∷ cs) = cond_both (c == 64) _ _ (OrRefused (44 ∷ c ∷ cs)) (λ _. tt) (λ _. tt)

directive_read : (x : List ℕ) → token (35 ∷ 33 ∷ x) ≡ Err directive
unfolding token hash_token
directive_read x = refl

label_read : (c : ℕ) (x : List ℕ) → is_ascii_digit c ≡ true → token (35 ∷ c ∷ x) ≡ Err label
unfolding token hash_token
label_read c x h =
    cond-false (c == 40) _ _ (is_no is_ascii_digit c 40 h refl) ∙ cond-false (c == 59) _ _ (is_no is_ascii_digit c 59 h refl) ∙ cond-false (c == 92) _ _ (is_no is_ascii_digit c 92 h refl)
    ∙ cond-false (c == 33) _ _ (is_no is_ascii_digit c 33 h refl) ∙ cond-true (is_ascii_digit c) _ _ h

directive_refused : (cs : List ℕ) → Refused directive (35 ∷ 33 ∷ cs)
directive_refused cs = record { begun = 35 ∷ []; behind = 33 ∷ cs; whole = refl; goes = hash_goes; halts = λ x. (directive, directive_read x); why = refl; no_hash = tt }

label_refused : (c : ℕ) (cs : List ℕ) → is_ascii_digit c ≡ true → Refused label (35 ∷ c ∷ cs)
label_refused c cs h = record {
  begun = 35 ∷ [];
  behind = c ∷ cs;
  whole = refl;
  goes = hash_goes;
  halts = λ x. (label, label_read c x h);
  why = sym (cond-false (c == 33) _ _ (is_no is_ascii_digit c 33 h refl) ∙ cond-true (is_ascii_digit c) _ _ h);
  no_hash = tt;
}

alone_refused : Refused bad_token (35 ∷ [])
alone_refused = record { begun = 35 ∷ []; behind = []; whole = refl; goes = hash_goes; halts = tt; why = refl; no_hash = tt }

hash_when : (c : ℕ) (cs : List ℕ) → (c == 124) ≡ false → OrRefused (35 ∷ c ∷ cs) (hash_token (c ∷ cs))
unfolding hash_token
hash_when c cs bar =
    let text = 35 ∷ c ∷ cs in
    cond_both (c == 40) _ _ (OrRefused text) (λ _. tt)
    (λ vector. cond_both (c == 59) _ _ (OrRefused text) (λ _. tt)
    (λ skip. cond_both (c == 92) _ _ (OrRefused text) (λ e. subst (λ (q : ℕ). OrRefused (35 ∷ q ∷ cs) (behind_hash_slash cs)) (sym (eqb-true c 92 e)) (slash_refused cs))
    (λ slash. cond_both (c == 33) _ _ (OrRefused text) (λ e. subst (λ (q : ℕ). Refused directive (35 ∷ q ∷ cs)) (sym (eqb-true c 33 e)) (directive_refused cs))
    (λ bang. cond_both (is_ascii_digit c) _ _ (OrRefused text) (λ e. label_refused c cs e)
    (λ digit. hash_refused c cs (record { vector = vector; skip = skip; character = slash; directive = bang; label = digit; comment = bar }))))))

hash_none : OrRefused (35 ∷ []) (hash_token [])
unfolding hash_token
hash_none = alone_refused

hash_first : (cs : List ℕ) → Dark (35 ∷ cs) → OrRefused (35 ∷ cs) (hash_token cs)
hash_first [] h = hash_none
hash_first (c ∷ cs) h = hash_when c cs h.2

first_is : (c d : ℕ) (cs : List ℕ) (r : Result (TokenKind × List ℕ) Fault) → (c == d) ≡ true → OrRefused (d ∷ cs) r → OrRefused (c ∷ cs) r
first_is c d cs r e h = subst (λ (q : ℕ). OrRefused (q ∷ cs) r) (sym (eqb-true c d e)) h

not_white : (c : ℕ) (cs : List ℕ) → Dark (c ∷ cs) → is_whitespace c ≡ false
not_white c [] h = h.0
not_white c (d ∷ ds) h = h.0

not_semicolon : (c : ℕ) (cs : List ℕ) → Dark (c ∷ cs) → (c == 59) ≡ false
not_semicolon c [] h = h.1
not_semicolon c (d ∷ ds) h = h.1

-- where no space stands and no token is read, the text is refused
pub token_refused : (c : ℕ) (cs : List ℕ) → Dark (c ∷ cs) → OrRefused (c ∷ cs) (token (c ∷ cs))
unfolding token
token_refused c cs dark =
    let text = c ∷ cs in
    cond_both (c == 40) _ _ (OrRefused text) (λ _. tt)
    (λ paren. cond_both (c == 41) _ _ (OrRefused text) (λ _. tt)
    (λ close. cond_both (c == 39) _ _ (OrRefused text) (λ _. tt)
    (λ quote. cond_both (c == 96) _ _ (OrRefused text) (λ _. tt)
    (λ quasi. cond_both (c == 44) _ _ (OrRefused text) (λ e. first_is c 44 cs (unquote_token cs) e (unquote_refused cs))
    (λ unquote. cond_both (c == 34) _ _ (OrRefused text) (λ e. first_is c 34 cs (string_token cs) e (string_refused cs))
    (λ string. cond_both (c == 124) _ _ (OrRefused text) (λ e. first_is c 124 cs (bar_token cs) e (bar_refused cs))
    (λ bar. cond_both (c == 35) _ _ (OrRefused text) (λ e. first_is c 35 cs (hash_token cs) e (hash_first cs (subst (λ (q : ℕ). Dark (q ∷ cs)) (eqb-true c 35 e) dark)))
    (λ hash. word_refused c cs (record { open_paren = paren; close_paren = close; quote = quote; quasi = quasi; unquote = unquote; string = string; bar = bar; hash = hash }) (not_white c cs dark) (not_semicolon c cs dark)))))))))
