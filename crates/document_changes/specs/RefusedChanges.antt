-- Whether a document is kept whose change is refused.
use Rattle.std.specs.Prelude.{Bool, true, false}
use Rattle.document_store.specs.declared.faults.StoreFault.{StoreFault}
use Rattle.document_store.specs.declared.faults.StoreFault.TheVariants as faults

-- one that becomes too long isn't
abbrev pub keeps : StoreFault → Bool
keeps faults.Memory = true
keeps faults.NotOpen = true
keeps faults.BadRange = true
keeps faults.TooLong = false
keeps faults.TooMany = true
