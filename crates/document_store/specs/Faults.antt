-- What the calls of the store answer, by the events that they stand for.
use Rattle.std.specs.Prelude.{◌≡◌, ℕ, List, Option, Some, None, Result, Ok, Err}
use Rattle.document_store.specs.declared.faults.StoreFault.{StoreFault}
use Rattle.document_store.specs.declared.faults.StoreFault.TheVariants as fault
use Rattle.document_store.specs.Texts.{Texts, Refusal, NotOpen, BadRange, TooLong, TooMany}

-- a fault other than want of memory is this refusal, and the call left what the event leaves; want of memory leaves all as it was
abbrev pub Refused : StoreFault → Texts → Texts → Texts × Option Refusal → Type 0
Refused fault.Memory old new event = new ≡ old
Refused fault.NotOpen old new event = event ≡ (new, Some NotOpen)
Refused fault.BadRange old new event = event ≡ (new, Some BadRange)
Refused fault.TooLong old new event = event ≡ (new, Some TooLong)
Refused fault.TooMany old new event = event ≡ (new, Some TooMany)

-- what a call answered and left is what the event gives, unless memory ran out
abbrev pub Follows : {T : Type 0} → Result T StoreFault → Texts → Texts → Texts × Option Refusal → Type 0
Follows (Ok _) old new event = event ≡ (new, None)
Follows (Err fault) old new event = Refused fault old new event

-- a fault other than want of memory is this refusal of an edit
abbrev pub EditFails : StoreFault → Result (List ℕ) Refusal → Type 0
EditFails fault.Memory edit = Unit {0}
EditFails fault.NotOpen edit = edit ≡ Err NotOpen
EditFails fault.BadRange edit = edit ≡ Err BadRange
EditFails fault.TooLong edit = edit ≡ Err TooLong
EditFails fault.TooMany edit = edit ≡ Err TooMany

-- the text or the refusal that an edit gives, unless memory ran out
abbrev pub Edits : Result (List ℕ) StoreFault → Result (List ℕ) Refusal → Type 0
Edits (Ok text) edit = edit ≡ Ok text
Edits (Err fault) edit = EditFails fault edit
