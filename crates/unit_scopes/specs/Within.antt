-- Notes and macros in scopes that are no newer than one.
use Rattle.std.specs.Prelude.{ℕ, min, max}
use Rattle.unit_scopes.specs.declared.asked.Asking.{Asking}
use Rattle.unit_scopes.specs.declared.asked.Note.{Note}
use Rattle.unit_scopes.specs.declared.asked.Note.TheVariants.{LookedUp, Compared}
use Rattle.unit_scopes.specs.declared.macros.Macro.{Macro}

-- the newest scope of a note
abbrev pub newest_of : Note → ℕ
newest_of (LookedUp at head keyword) = at.scope
newest_of (Compared literal at held) = max literal.scope at.scope

-- the same, in this scope in place of a newer one
abbrev pub place_within : ℕ → Asking → Asking
place_within last at = record at { scope = min at.scope last }

abbrev pub note_within : ℕ → Note → Note
note_within last (LookedUp at head keyword) = LookedUp (place_within last at) head keyword
note_within last (Compared literal at held) = Compared (place_within last literal) (place_within last at) held

abbrev pub macro_within : ℕ → Macro → Macro
macro_within last k = record k { scope = min k.scope last }
