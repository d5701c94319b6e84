-- A state outside of all forms (R7RS 4.3, 5.3): what units define and import, their macros, and what each form has counted, without what
-- forms bind inside.
use Rattle.std.specs.Prelude.{◌≡◌, List, [], Bool, true, false, filter, Option}
use Rattle.scheme_model.specs.Meaning.{Meaning, Local, Global, Standard, Free}
use Rattle.scheme_model.specs.ScopedExpansion.{ScopedMacro, ScopedState}
use Rattle.scheme_model.specs.Questions.{Around}
use Rattle.scheme_model.specs.FormsAlike.{bare_state}

abbrev pub is_outside : Meaning → Bool
is_outside (Local v) = false
is_outside (Global u i) = true
is_outside (Standard x) = true
is_outside (Free x) = true

abbrev pub macros_outside : List ScopedMacro → List ScopedMacro
macros_outside ks = filter (λ k. is_outside k.meaning) ks

-- where uses stand, what bodies define and local macros are forgotten
abbrev pub outside : ScopedState → ScopedState
outside s = record s { macros = macros_outside s.macros; places = []; definitions = [] }

-- nothing local is there
abbrev pub IsOutside : ScopedState → Type 0
IsOutside s = outside s ≡ s

abbrev pub around_outside : Around → Around
around_outside w = record { state = outside w.state; known = w.known; notes = w.notes }

-- and so behind work, whatever came of it
abbrev pub forgotten : {X : Type 0} → X × ScopedState → X × ScopedState
forgotten q = (q.0, outside q.1)

-- s is t outside, but for the times at which bodies were entered
abbrev pub IsOutsideOf : ScopedState → ScopedState → Type 0
IsOutsideOf t s = bare_state s ≡ bare_state (outside t)

-- the same came of both, or both ended; and the state of the second is that of the first outside
pub record ForgetsLocals {X : Type 0} (q m : Option X × ScopedState) : Type 0 where
  pub result : m.0 ≡ q.0
  pub state : IsOutsideOf q.1 m.1
