-- Hex digits and the character whose code they write.
use Rattle.std.proofs.Common.{◌≡◌, ℕ, ◌<◌, ◌≤◌, inl, inr, List, ◌∷◌, Option, Some, None, true, false, sym, ap, ◌∙◌, arith, MatchOption}
use Rattle.std.specs.Option.{SomeIff}
use Rattle.std.specs.Char.{InScalarRange, OutOfScalarRange, IsScalar}
use Rattle.std.proofs.lemmas.Bool.{cond-true, cond-false}
use Rattle.std.proofs.lemmas.Bool.Decides.{nat_tests}
use Rattle.scheme_tokens.specs.Lexical.{is_scalar}
use Rattle.scheme_tokens.specs.Mirror.Quoted.{hex_value, hex_scalar}
use Rattle.scheme_tokens.specs.Mirror.Told.{IsCapped}

in_range : (m : ℕ) → InScalarRange m → is_scalar m ≡ true
in_range m (inl h) = grind (arith, nat_tests)
in_range m (inr h) = grind (arith, nat_tests)

out_of_range : (m : ℕ) → OutOfScalarRange m → is_scalar m ≡ false
out_of_range m (inl h) = grind (arith, nat_tests)
out_of_range m (inr h) = grind (arith, nat_tests)

past_last : (n : ℕ) → 0x11_0000 ≤ n → is_scalar n ≡ false
past_last n h = out_of_range n (inr h)

below_last : (m : ℕ) → InScalarRange m → m < 0x11_0000
below_last m (inl h) = omega arith
below_last m (inr h) = omega arith

told_exactly : (m n : ℕ) → InScalarRange m → IsCapped m n → m ≡ n
told_exactly m n h (inl e) = e
told_exactly m n h (inr g) = absurd (omega (arith, below_last m h, g.0))

no_character : (m n : ℕ) → OutOfScalarRange m → IsCapped m n → is_scalar n ≡ false
no_character m n h (inl e) = ap is_scalar (sym e) ∙ out_of_range m h
no_character m n h (inr g) = past_last n g.1

-- the character that a told number is, if any, is the one that the digits write
pub hex_scalar_is : (found : Option ℕ) (told d : ℕ) (ds : List ℕ) → IsCapped told (hex_value (d ∷ ds)) → SomeIff found (IsScalar told) told →
    MatchOption found (OutOfScalarRange told) (λ _. InScalarRange told) → found ≡ hex_scalar (d ∷ ds)
hex_scalar_is None told d ds h s m = sym (cond-false (is_scalar (hex_value (d ∷ ds))) _ _ (no_character told (hex_value (d ∷ ds)) m h))
hex_scalar_is (Some x) told d ds h s m =
    let exact = told_exactly told (hex_value (d ∷ ds)) m h in
    ap (λ (n : ℕ). Some n) (s.1 ∙ exact) ∙ sym (cond-true (is_scalar (hex_value (d ∷ ds))) _ _ (ap is_scalar (sym exact) ∙ in_range told m))
