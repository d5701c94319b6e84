-- Steps of an expansion. A step from a state gives a value or the first fault, and the state after it, which stays also
-- beside a fault.
use Rattle.std.specs.Prelude.{Option, Result, Ok, Err}
use Rattle.scheme_model.specs.declared.Occ.{Occ}
use Rattle.scheme_model.specs.Ident.{Ident}
use Rattle.scheme_model.specs.ExpansionFaults.{Fault}

-- a fault, and the place of the innermost form read from the text that was being expanded
pub record Broken : Type 0 where
  pub fault : Fault Ident
  pub here : Option Occ

abbrev pub Step : Type 0 → Type 0 → Type 0
Step S A = S → Result A Broken × S

infixl 10 ◌>>=◌
abbrev pub ◌>>=◌ : {S A B : Type 0} → Result A Broken × S → (A → Step S B) → Result B Broken × S
(Ok x, s) >>= f = f x s
(Err e, s) >>= f = (Err e, s)

abbrev pub done : {S A : Type 0} → A → Step S A
done a s = (Ok a, s)

abbrev pub fails : {S A : Type 0} → Option Occ → Fault Ident → Step S A
fails here e s = (Err (record { fault = e; here = here }), s)
