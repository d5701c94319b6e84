-- Laws of tests: what a test that holds tells.
use Rattle.std.proofs.Common.{◌≡◌, Bool, true, false, refl, sym}
use Rattle.std.specs.Prelude.{◌&&◌}
use Rattle.std.proofs.lemmas.Bool.{eq-eqb}
use Rattle.scheme_model.specs.Identifiers.{Number, same_number}

pub and_true : (a b : Bool) → (a && b) ≡ true → (a ≡ true) × (b ≡ true)
and_true true b e = (refl, e)
and_true false b e = absurd cc

pub bool_same : (a b : Bool) → (a ≡ true → b ≡ true) → (b ≡ true → a ≡ true) → a ≡ b
bool_same true b f g = sym (f refl)
bool_same false true f g = g refl
bool_same false false f g = refl

pub same_number-refl : (k : Number) → same_number k k ≡ true
same_number-refl k = rw (eq-eqb k.unit k.unit refl, eq-eqb k.form k.form refl, eq-eqb k.count k.count refl) refl
