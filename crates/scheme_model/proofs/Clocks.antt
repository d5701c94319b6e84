-- Clocks, form by form: how far each form of a unit has counted, and which numbers it has counted by then.
use Rattle.std.proofs.Common.{◌≡◌, ℕ, suc, ◌<◌, ◌≤◌, Bool, true, false, cond, eqb, ltb, refl, sym, ap, ◌∙◌, subst, arith}
use Rattle.std.proofs.lemmas.Bool.{eq-eqb, ltb-true, lt-ltb, false_from_ne_true}
use Rattle.scheme_model.specs.Identifiers.{Number, same_number}
use Rattle.scheme_model.specs.Substitution.{Clock, at_form}
use Rattle.scheme_model.specs.FrameImages.{is_before}
use Rattle.scheme_model.proofs.OpenBodies.{Leq, Before, NotYet}
use Rattle.scheme_model.proofs.IdentLaws.{number_told}

pub leq_itself : (n : Clock) → Leq n n
leq_itself n f = omega arith

pub leq_then : (n m l : Clock) → Leq n m → Leq m l → Leq n l
leq_then n m l a b f = omega (arith, a f, b f)

pub leq_counted : (f : ℕ) (n : Clock) → Leq n (at_form f suc n)
leq_counted f n g = go (eqb g f)
  where
    go : (t : Bool) → n g ≤ cond t (suc (n g)) (n g)
    go true = omega arith
    go false = omega arith

pub before_more : (unit : ℕ) (n m : Clock) → Leq n m → (k : Number) → Before unit n k → Before unit m k
before_more unit n m le k h = go (eqb k.unit unit) h
  where
    go : (t : Bool) → cond t (ltb k.count (n k.form)) true ≡ true → cond t (ltb k.count (m k.form)) true ≡ true
    go true e = let p : k.count < n k.form = ltb-true k.count (n k.form) e in lt-ltb k.count (m k.form) (omega (arith, p, le k.form))
    go false e = refl

pub not_yet_less : (unit : ℕ) (n m : Clock) → Leq n m → (k : Number) → NotYet unit m k → NotYet unit n k
not_yet_less unit n m le k h = false_from_ne_true (is_before unit n k) (λ e. let p = before_more unit n m le k e in let q : true ≡ false = sym p ∙ h in absurd cc)

-- one that isn't counted yet differs from those that are
pub apart : (unit : ℕ) (n : Clock) (k l : Number) → Before unit n k → NotYet unit n l → same_number k l ≡ false
apart unit n k l h g = false_from_ne_true (same_number k l) (λ e. let p : Before unit n l = subst (Before unit n) (number_told k l e) h in let q : true ≡ false = sym p ∙ g in absurd cc)

-- ---- a form's next number

abbrev pub numbered : ℕ → ℕ → Clock → Number
numbered unit f n = record { unit = unit; form = f; count = n f }

pub next_not_yet : (unit f : ℕ) (n : Clock) → NotYet unit n (numbered unit f n)
next_not_yet unit f n = ap (λ t. cond t (ltb (n f) (n f)) true) (eq-eqb unit unit refl) ∙ false_from_ne_true (ltb (n f) (n f)) (λ e. let p : n f < n f = ltb-true (n f) (n f) e in omega arith)

pub next_counted : (unit f : ℕ) (n : Clock) → Before unit (at_form f suc n) (numbered unit f n)
next_counted unit f n =
    ap (λ t. cond t (ltb (n f) (at_form f suc n f)) true) (eq-eqb unit unit refl)
    ∙ ap (λ t. ltb (n f) (cond t (suc (n f)) (n f))) (eq-eqb f f refl)
    ∙ lt-ltb (n f) (suc (n f)) (omega arith)
