-- Names that units import and export, under other numbers (R7RS 5.2, 5.6).
use Rattle.std.specs.Prelude.{ℕ, List, map}
use Rattle.scheme_model.specs.ExpansionFaults.{Named}
use Rattle.scheme_model.specs.Entries.{Source, At, StandardName, Origin, Entry}
use Rattle.scheme_model.specs.Program.{ExportSpec, ExportFault, NotDefined, SameExport, Exported}
use Rattle.renumbering_laws.specs.Renumbering.{Renumbering, occ_at, place, meaning}

abbrev pub source_as : Renumbering → Source → Source
source_as r (At o) = At (occ_at r o)
source_as r (StandardName s) = StandardName s

abbrev pub origin_as : Renumbering → Origin → Origin
origin_as r o = record { source = source_as r o.source; prefix = o.prefix }

abbrev pub entry_as : Renumbering → Entry → Entry
entry_as r e = record { name = e.name; meaning = meaning r e.meaning; origins = map (origin_as r) e.origins }

abbrev pub symbol_as : Renumbering → Named (List ℕ) → Named (List ℕ)
symbol_as r n = record { name = n.name; occ = place r n.occ }

-- an export of this unit
abbrev pub export_as : Renumbering → (unit : ℕ) → ExportSpec → ExportSpec
export_as r u x = record { form = r.form u x.form; inner = symbol_as r x.inner; outer = symbol_as r x.outer; renamed = x.renamed }

abbrev pub export_fault_as : Renumbering → (unit : ℕ) → ExportFault → ExportFault
export_fault_as r u (NotDefined x) = NotDefined (export_as r u x)
export_fault_as r u (SameExport x) = SameExport (export_as r u x)

abbrev pub exported_as : Renumbering → (unit : ℕ) → Exported → Exported
exported_as r u e = record { entries = map (entry_as r) e.entries; faults = map (export_fault_as r u) e.faults }
