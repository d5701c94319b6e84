-- Documents of a store, one by one, and what it refuses.
use Rattle.std.specs.Prelude.{◌≡◌, ℕ, List, Option, Some, None, Result, Ok, Err}
use Rattle.std.specs.FinMap.{insert}
use Rattle.document_store.specs.Texts.{Document, Texts}
use Rattle.document_store.specs.declared.faults.StoreFault.{StoreFault}
use Rattle.document_store.specs.declared.faults.StoreFault.TheVariants as faults
use Rattle.read_documents.specs.declared.opened.Opened as code

-- a document with its uri
abbrev pub opened : code.Opened → List ℕ × Document
opened d = (d.uri.now, (d.version, d.text.now))

-- a document was added, where there is one
abbrev pub CopiesTo : Texts → Texts → Option (List ℕ × Document) → Type 0
CopiesTo old new None = new ≡ old
CopiesTo old new (Some d) = new ≡ insert old d.0 d.1

-- a fault is a refusal, unless it is want of memory
abbrev pub IsFault : StoreFault → Option StoreFault → Type 0
IsFault faults.Memory refused = ⊥
IsFault faults.NotOpen refused = refused ≡ Some faults.NotOpen
IsFault faults.BadRange refused = refused ≡ Some faults.BadRange
IsFault faults.TooLong refused = refused ≡ Some faults.TooLong
IsFault faults.TooMany refused = refused ≡ Some faults.TooMany

-- a refusal, and none where there was none
abbrev pub IsRefusal : {T : Type 0} → Result T StoreFault → Option StoreFault → Type 0
IsRefusal (Ok x) refused = refused ≡ None
IsRefusal (Err fault) refused = IsFault fault refused
