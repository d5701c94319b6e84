-- The numerals of bytevectors.
use Rattle.std.proofs.Common.{◌≡◌, ℕ, ◌+◌, ◌*◌, ◌≤◌, List, [], ◌∷◌, Bool, true, false, cond, refl, ap, arith, min, inl, inr}
use Rattle.std.specs.Char.{is_ascii_digit, digit_value}
use Rattle.std.proofs.lemmas.Bool.{cases_lt}
use Rattle.std.proofs.lemmas.Bool.Decides.{nat_tests}
use Rattle.scheme_model.specs.Numbered.{is_byte}

-- above 255 one number is as good as another
by_digit : (b : Bool) (m n : Bool) → m ≡ n → cond b m true ≡ cond b n true
by_digit true m n e = e
by_digit false m n e = refl

pub past_bytes : (m n : ℕ) (cs : List ℕ) → 256 ≤ m → 256 ≤ n → is_byte m cs ≡ is_byte n cs
past_bytes m n [] h k = grind (arith, nat_tests)
past_bytes m n (c ∷ cs) h k =
    by_digit (is_ascii_digit c) (is_byte (10 * m + digit_value c) cs) (is_byte (10 * n + digit_value c) cs) (past_bytes (10 * m + digit_value c) (10 * n + digit_value c) cs (omega arith) (omega arith))

pub capped_byte : (m n : ℕ) (cs : List ℕ) → m ≡ min n 256 → is_byte m cs ≡ is_byte n cs
capped_byte m n cs e = elim (cases_lt n 256) [
  | inl l ↦ let same : m ≡ n = omega arith in ap (λ (k : ℕ). is_byte k cs) same
  | inr l ↦ past_bytes m n cs (omega arith) (omega arith)
]

pub digit_more : (v c : ℕ) (cs : List ℕ) → is_ascii_digit c ≡ true → is_byte v (c ∷ cs) ≡ is_byte (10 * v + digit_value c) cs
digit_more v c cs h = ap (λ (b : Bool). cond b (is_byte (10 * v + digit_value c) cs) true) h

pub no_digit : (v c : ℕ) (cs : List ℕ) → is_ascii_digit c ≡ false → is_byte v (c ∷ cs) ≡ true
no_digit v c cs h = ap (λ (b : Bool). cond b (is_byte (10 * v + digit_value c) cs) true) h

pub digit_of : (c : ℕ) → is_ascii_digit c ≡ true → digit_value c + 48 ≡ c
digit_of c h = grind (arith, nat_tests)
