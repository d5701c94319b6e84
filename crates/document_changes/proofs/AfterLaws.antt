-- What an event left and why it was refused, by what the store's call answered.
use Rattle.std.proofs.Common.{◌≡◌, Option, Result, Ok, Err, sym, ap, ◌∙◌}
use Rattle.std.specs.Option.{option_map}
use Rattle.document_store.specs.Texts.{Texts, Refusal}
use Rattle.document_store.specs.Faults.{Follows, Refused}
use Rattle.document_store.specs.declared.faults.StoreFault.{StoreFault}
use Rattle.document_store.specs.declared.faults.StoreFault.TheVariants as faults
use Rattle.document_changes.specs.Events.{fault_of}
use Rattle.read_documents.specs.Stored.{IsFault, IsRefusal}

by_fault : (fault : StoreFault) (old new : Texts) (event : Texts × Option Refusal) (refused : Option StoreFault) → Refused fault old new event → IsFault fault refused →
    (new ≡ event.0) × (refused ≡ option_map fault_of event.1)
by_fault faults.Memory old new event refused is h = absurd h
by_fault faults.NotOpen old new event refused is h = (ap (λ e. e.0) (sym is), h ∙ ap (λ e. option_map fault_of e.1) (sym is))
by_fault faults.BadRange old new event refused is h = (ap (λ e. e.0) (sym is), h ∙ ap (λ e. option_map fault_of e.1) (sym is))
by_fault faults.TooLong old new event refused is h = (ap (λ e. e.0) (sym is), h ∙ ap (λ e. option_map fault_of e.1) (sym is))
by_fault faults.TooMany old new event refused is h = (ap (λ e. e.0) (sym is), h ∙ ap (λ e. option_map fault_of e.1) (sym is))

pub by_answer : {T : Type 0} (done : Result T StoreFault) (old new : Texts) (event : Texts × Option Refusal) (refused : Option StoreFault) → Follows done old new event → IsRefusal done refused →
    (new ≡ event.0) × (refused ≡ option_map fault_of event.1)
by_answer (Ok x) old new event refused is h = (ap (λ e. e.0) (sym is), h ∙ ap (λ e. option_map fault_of e.1) (sym is))
by_answer (Err fault) old new event refused is h = by_fault fault old new event refused is h
