-- Which words are numbers.
use Rattle.std.proofs.Common.{◌≡◌, ◌<◌, ◌≤◌, ◌^◌, ℕ, [], ◌∷◌, length, drop, Bool, true, false, cond, ap, sym, ◌∙◌, subst, arith, get_or, eqb}
use Rattle.std.specs.Prelude.{MatchOption, Ok, Err, Result}
use Rattle.std.proofs.Math.Nat.{pow-le-pow_right}
use Rattle.std.proofs.lemmas.Bool.Decides.{nat_tests}
use Rattle.std.proofs.lemmas.Int.Digits.{digits_value-lt}
use Rattle.std.specs.Char.{digit_value}
use Rattle.std.specs.Result.{result_ok}
use Rattle.std.specs.Str.Parse.{AllDigits, IsNumeral, ParsesUnsigned, digits_value, without_leading_plus}
use Rattle.command_words.specs.Numbers.{IsNumber}
use Rattle.command_words.specs.Words.{Word}

pub too_long : (word : Word) → 9 < length word → (n : ℕ) → ¬ IsNumber word n
too_long word long n h = let short = h.short in omega arith

equal : (c d : ℕ) → eqb c d ≡ true → c ≡ d
equal c d same = grind (arith, nat_tests)

no_plus : (c : ℕ) → c ≡ 43 → digit_value c < 10 → ⊥
no_plus c plus below = let here = let P : ℕ → Type 0 = λ n. digit_value n < 10 in subst P plus below in omega arith

pub plus_refused : (word : Word) → eqb (get_or word 0 0) 43 ≡ true → (n : ℕ) → ¬ IsNumber word n
plus_refused [] plus n h = let some = h.digits.0 in omega arith
plus_refused (c ∷ cs) plus n h = no_plus c (equal c 43 plus) h.digits.1.0

small : (word : Word) → AllDigits 10 word → length word ≤ 9 → digits_value 10 word < 2 ^ 32
small word digits short =
    let below = digits_value-lt 10 word digits in
    let bound : 10 ^ length word ≤ 10 ^ 9 = pow-le-pow_right (omega arith) short in omega arith

whole : (word : Word) → eqb (get_or word 0 0) 43 ≡ false → without_leading_plus word ≡ word
whole word plain = ap (λ (b : Bool). drop (cond b 1 0) word) plain

-- what `parse` gives of a short word without `+`
pub parsed : {E : Type 0} (word : Word) (r : Result ℕ E) → eqb (get_or word 0 0) 43 ≡ false → length word ≤ 9 → ParsesUnsigned 32 10 word r
    → MatchOption (result_ok r) ((n : ℕ) → ¬ IsNumber word n) (IsNumber word)
parsed word (Ok n) plain short h = record {
  digits = let P : Word → Type 0 = λ w. IsNumeral 10 w in subst P (whole word plain) h.0.0;
  short = short;
  value = h.1 ∙ ap (λ (w : Word). digits_value 10 w) (whole word plain);
}
parsed word (Err e) plain short h = λ n number. h (
  let P : Word → Type 0 = λ w. IsNumeral 10 w in subst P (sym (whole word plain)) number.digits,
  let P : Word → Type 0 = λ w. digits_value 10 w < 2 ^ 32 in subst P (sym (whole word plain)) (small word number.digits.1 number.short),
)
