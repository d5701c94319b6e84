-- A unit that is worked on after others: which numbers and identifiers there are by then. None is of a unit that comes later.
use Rattle.std.proofs.Common.{◌≡◌, ℕ, [], ◌∷◌, Bool, true, refl, ap, ◌∙◌, eq-eqb}
use Rattle.std.specs.Prelude.{◌==◌, ◌||◌}
use Rattle.scheme_model.specs.Identifiers.{Number}
use Rattle.scheme_model.specs.Ident.{Ident, Written, Inserted}
use Rattle.scheme_model.specs.Substitution.{Clock}
use Rattle.scheme_model.specs.ScopedExpansion.{Bind, Enter, Frames, BodyDefinitions}
use Rattle.scheme_model.proofs.OpenBodies.{Leq, Before as Counted, Below as BelowCounted, Entered, FramesOk}
use Rattle.scheme_model.proofs.Clocks.{before_more as counted_more}
use Rattle.model_laws.proofs.FrameTimes.{entered_more}

-- the unit, and those that were worked on before it
pub record Era : Type 0 where
  pub unit : ℕ
  pub worked : ℕ → Bool

abbrev pub Worked : Era → ℕ → Type 0
Worked w u = (u == w.unit || w.worked u) ≡ true

-- a number that is counted, of this unit or of one before it
abbrev pub Before : Era → Clock → Number → Type 0
Before w n k = Counted w.unit n k × Worked w k.unit

-- made by uses that are counted, of this unit or of those before it
abbrev pub Below : Era → Clock → Ident → Type 0
Below w u (Written v s) = Unit {0}
Below w u (Inserted i k) = Before w u k × Below w u i

pub unit_worked : (w : Era) (u : ℕ) → u ≡ w.unit → Worked w u
unit_worked w u e = ap (λ v. v == w.unit || w.worked u) e ∙ ap (λ t. t || w.worked u) (eq-eqb w.unit w.unit refl)

pub before_more : (w : Era) (n m : Clock) → Leq n m → (k : Number) → Before w n k → Before w m k
before_more w n m le k h = (counted_more w.unit n m le k h.0, h.1)

pub below_more : (w : Era) (n m : Clock) → Leq n m → (i : Ident) → Below w n i → Below w m i
below_more w n m le (Written v s) h = tt
below_more w n m le (Inserted i k) h = (before_more w n m le k h.0, below_more w n m le i h.1)

pub below_counted : (w : Era) (u : Clock) (i : Ident) → Below w u i → BelowCounted w.unit u i
below_counted w u (Written v s) h = tt
below_counted w u (Inserted i k) h = (h.0.0, below_counted w u i h.1)

pub entered_counted : (w : Era) (n : Clock) (fs : Frames) → Entered (Before w n) fs → Entered (Counted w.unit n) fs
entered_counted w n fs h = entered_more (Before w n) (Counted w.unit n) (λ k e. e.0) fs h

pub frames_entered : (w : Era) (ds : BodyDefinitions) (u n : Clock) (fs : Frames) → FramesOk w.unit ds u n fs → Entered (Before w n) fs
frames_entered w ds u n [] h = tt
frames_entered w ds u n (Bind x v ∷ fs) h = frames_entered w ds u n fs h.1
frames_entered w ds u n (Enter b z ∷ fs) h = ((h.2, unit_worked w b.unit h.1), entered_more (Before w h.0) (Before w n) (before_more w h.0 n h.4) fs (frames_entered w ds z h.0 fs h.7))
