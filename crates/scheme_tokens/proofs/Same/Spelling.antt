-- How the code writes a name, and that it is read back.
use Rattle.std.proofs.Common.{◌≡◌, ℕ, List, [], Bool, true, false, cond, not, refl, sym, subst, inl, inr}
use Rattle.std.proofs.lemmas.Bool.{and_parts, and_from, not-true, not_from_false, false_from_ne_true}
use Rattle.scheme_tokens.specs.Lexical.{Atomic, Name, IsToken, IsIdentifier}
use Rattle.scheme_tokens.specs.Spelling.{barred, IsSpelling}
use Rattle.scheme_tokens.specs.Mirror.Words.{is_numeral, is_identifier}
use Rattle.scheme_tokens.specs.Mirror.Tokens.{token}
use Rattle.scheme_tokens.specs.Mirror.Spelled.{is_bare, spelled}
use Rattle.scheme_tokens.proofs.SpellLaws.{bare_read, barred_read}
use Rattle.scheme_tokens.proofs.Same.Words.{test_numeral, bare_identifier}
use Rattle.scheme_tokens.proofs.Same.Tokens.{token_told}
use Rattle.scheme_tokens.proofs.Same.Reading.{same_kind}

not_both : (b : Bool) → b ≡ true → b ≡ false → ⊥
not_both b h k = cc

bare_token : (name : List ℕ) → is_bare name ≡ true → IsToken (Atomic (Name name false)) name []
bare_token name h =
    let parts = and_parts (not (is_numeral name)) (is_identifier name) h in
    same_kind (Atomic (Name name false)) name (token name) (token_told name) (bare_read name (not-true (is_numeral name) parts.0) parts.1)

token_bare : (name : List ℕ) → IsToken (Atomic (Name name false)) name [] → is_bare name ≡ true
token_bare name h =
    and_from (not (is_numeral name)) (is_identifier name) (not_from_false (is_numeral name) (false_from_ne_true (is_numeral name) (λ e. h.2 (test_numeral name e)))) (bare_identifier h.1)

spelling_when : (name : List ℕ) (bare : Bool) → is_bare name ≡ bare → IsSpelling name false (cond (not bare) (barred name) name)
spelling_when name true h = inl (refl, bare_token name h)
spelling_when name false h = inr (refl, λ t. not_both (is_bare name) (token_bare name t) h)

-- what the code writes is how the name is written
pub spelling : (name : List ℕ) (bars : Bool) → IsSpelling name bars (spelled name bars)
unfolding spelled
spelling name true = refl
spelling name false = spelling_when name (is_bare name) refl

pub barred_token : (name text : List ℕ) → text ≡ barred name → IsToken (Atomic (Name name true)) text []
barred_token name text e =
    subst (λ (q : List ℕ). IsToken (Atomic (Name name true)) q []) (sym e) (same_kind (Atomic (Name name true)) (barred name) (token (barred name)) (token_told (barred name)) (barred_read name))

barred_back : (name text : List ℕ) → text ≡ barred name → IsIdentifier name text
barred_back name text e = (true, barred_token name text e)

-- a name that is written is read back
pub spelled_back : (name text : List ℕ) (bars : Bool) → IsSpelling name bars text → IsIdentifier name text
spelled_back name text true h = barred_back name text h
spelled_back name text false (inl h) = (false, subst (λ (q : List ℕ). IsToken (Atomic (Name name false)) q []) (sym h.0) h.1)
spelled_back name text false (inr h) = barred_back name text h.0
