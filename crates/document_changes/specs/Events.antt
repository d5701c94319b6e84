-- Events of the workspace as events of its store (LSP 3.17, text synchronisation).
use Rattle.std.specs.Prelude.{ℕ, List, Option, Some, None, Bool, true, false}
use Rattle.document_store.specs.Texts as store
use Rattle.document_store.specs.declared.faults.StoreFault.{StoreFault}
use Rattle.document_store.specs.declared.faults.StoreFault.TheVariants as faults
use Rattle.document_changes.specs.RefusedChanges.{keeps}
use Rattle.document_changes.specs.declared.events.DocEvent as events
use Rattle.document_changes.specs.declared.events.DocEvent.TheVariants as event

abbrev pub event_of : events.DocEvent → store.Event
event_of (event.Added uri version text) = store.Added uri version text
event_of (event.Changed uri version changes) = store.Changed uri version changes
event_of (event.Closed uri) = store.Closed uri

abbrev pub uri_of : events.DocEvent → List ℕ
uri_of (event.Added uri version text) = uri
uri_of (event.Changed uri version changes) = uri
uri_of (event.Closed uri) = uri

-- the refusal of an event, as the store answers it
abbrev pub fault_of : store.Refusal → StoreFault
fault_of store.NotOpen = faults.NotOpen
fault_of store.BadRange = faults.BadRange
fault_of store.TooLong = faults.TooLong
fault_of store.TooMany = faults.TooMany

-- a refusal that leaves the texts; one of a change that makes a text too long takes the document away
abbrev pub leaves : store.Event → Option store.Refusal → Bool
leaves event None = false
leaves event (Some store.NotOpen) = true
leaves event (Some store.BadRange) = true
leaves event (Some store.TooMany) = true
leaves (store.Added uri version text) (Some store.TooLong) = true
leaves (store.Changed uri version changes) (Some store.TooLong) = false
leaves (store.Closed uri) (Some store.TooLong) = true

-- the same, by the fault that the code answers
abbrev pub leaves_by : store.Event → StoreFault → Bool
leaves_by (store.Added uri version text) fault = true
leaves_by (store.Changed uri version changes) fault = keeps fault
leaves_by (store.Closed uri) fault = true
