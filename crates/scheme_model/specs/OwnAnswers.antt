-- What a form answers itself: what its own frames, bodies and uses bind (R7RS 4.3, 5.3). All else is asked of what is around it, each
-- time by one identifier at the root of its unit, so that a look-up needs no frames once it was answered.
use Rattle.std.specs.Prelude.{List, [], ◌∷◌, Bool, true, false, Option, Some, None, if◌then◌else◌}
use Rattle.scheme_model.specs.Identifiers.{Number}
use Rattle.scheme_model.specs.Ident.{Ident, Written, Inserted, same_ident}
use Rattle.scheme_model.specs.Meaning.{Meaning, Local, Global, Standard, Free, same_meaning}
use Rattle.scheme_model.specs.Order.{Note, Transformer, is_some}
use Rattle.scheme_model.specs.Substitution.{Table, defined_in, is_refused}
use Rattle.scheme_model.specs.Scopes.{local_or}
use Rattle.scheme_model.specs.ScopedExpansion.{Bind, Enter, Frames, BodyDefinitions, UsePlace, FramedIdent, ScopedMacro, ScopedState, around, find, means_outside, macro_at}

-- what a form has made and found
pub record Own : Type 0 where
  pub table : Table
  pub macros : List ScopedMacro
  pub places : List UsePlace
  pub definitions : BodyDefinitions

-- ---- look-ups

abbrev pub found_or : Option (Number × BodyDefinitions) → Option Number → Option Number
found_or None other = other
found_or (Some d) other = Some d.0

-- the local that frames give, where outside them it is this one
abbrev pub local_inside : BodyDefinitions → Frames → Ident → Option Number → Option Number
local_inside ds [] i outer = outer
local_inside ds (Bind x v ∷ fs) i outer = if same_ident x i then Some v else local_inside ds fs i outer
local_inside ds (Enter b u ∷ fs) i outer = found_or (find ds b i) (local_inside ds fs i outer)

abbrev pub unless : Bool → Option Number → Option Number
unless true o = None
unless false o = o

-- what the form's uses inserted may be bound around their macros, where the form's unit doesn't define it
abbrev pub local_outside : Table → List UsePlace → BodyDefinitions → Ident → Option Number
local_outside table ps ds (Written u s) = None
local_outside table ps ds (Inserted i k) = unless (is_some (defined_in table k.unit (Inserted i k))) (local_inside ds (around ps k) i (local_outside table ps ds i))

-- the local that the form itself gives as the answer, or nothing: then the identifier is asked at the root of its unit
abbrev pub own_local : Own → Frames → Ident → Option Number
own_local o fs i = local_inside o.definitions fs i (local_outside o.table o.places o.definitions i)

-- what an identifier means at the root: what units define and import, and nothing local
abbrev pub root_means : ScopedState → Ident → Meaning
root_means s i = means_outside s.table s.entry [] [] i

abbrev pub own_means : Own → ScopedState → Frames → Ident → Meaning
own_means o s fs i = local_or (own_local o fs i) (root_means s i)

-- a local macro is the form's own
abbrev pub own_macro : Own → ScopedState → Meaning → Option (Transformer Frames Ident)
own_macro o s (Local v) = macro_at o.macros (Local v)
own_macro o s (Global u i) = macro_at s.macros (Global u i)
own_macro o s (Standard x) = macro_at s.macros (Standard x)
own_macro o s (Free x) = macro_at s.macros (Free x)

-- ---- definitions

-- a definition in a unit asks of notes what their identifiers mean once it is there
abbrev pub unit_refused : Own → ScopedState → Meaning → Bool → Note FramedIdent → Bool
unit_refused o s m new note = is_refused new (λ p. same_meaning (own_means o s p.frames p.ident) m) (λ p. own_means o s p.frames p.ident) note

-- one in a body asks for its local alone, so of no more than what the form itself answers
abbrev pub body_refused : Own → Meaning → Bool → Note FramedIdent → Bool
body_refused o m new note = is_refused new (λ p. same_meaning (local_or (own_local o p.frames p.ident) (Free [])) m) (λ p. local_or (own_local o p.frames p.ident) (Free [])) note
