-- The texts of libraries' names.
use Rattle.std.proofs.Common.{◌≡◌, ℕ, List, false, Result, Ok, Err, refl, sym, ap, ◌∙◌, inl, inr}
use Rattle.std.specs.Str.{chars, encode_utf8_all, IsUtf8}
use Rattle.std.proofs.lemmas.Str.{encodes-chars}
use Rattle.scheme_tokens.specs.Spelling.{IsSpelling}
use Rattle.scheme_tokens.specs.Mirror.Spelled.{spelled}
use Rattle.scheme_tokens.proofs.Same.Spelling.{spelling}
use Rattle.scheme_model.specs.Requirements.{Symbol}
use Rattle.known_libraries.specs.PartsRead.{map_ok, part_text}

-- a name is written in one way
spelled_one : (name a b : List ℕ) → IsSpelling name false a → IsSpelling name false b → a ≡ b
spelled_one name a b (inl h) (inl k) = h.0 ∙ sym k.0
spelled_one name a b (inl h) (inr k) = absurd (k.1 h.1)
spelled_one name a b (inr h) (inl k) = absurd (h.1 k.1)
spelled_one name a b (inr h) (inr k) = h.0 ∙ sym k.0

pub symbol_written : (symbol text bytes : List ℕ) → bytes ≡ text → IsUtf8 bytes → IsSpelling (chars symbol) false (chars text) → bytes ≡ part_text (Symbol symbol)
symbol_written symbol text bytes same utf8 h =
    sym (encodes-chars bytes utf8) ∙ ap (λ (s : List ℕ). encode_utf8_all (chars s)) same ∙ ap encode_utf8_all (spelled_one (chars symbol) (chars text) (spelled (chars symbol) false) h (spelling (chars symbol) false))

pub ok_of : {A B C : Type 0} (f : A → B) (r : Result A C) (b : B) → map_ok f r ≡ Ok b → (a : A) × (r ≡ Ok a) × (f a ≡ b)
ok_of f (Ok a) b h = (a, refl, cc)
ok_of f (Err e) b h = absurd cc
