use Rattle.scheme_model.specs.Included.{Sources}
use Rattle.included_forms.specs.Built.{AreDocuments, AreUsable, IsTable}
use Rattle.included_forms.proofs.tables.Table.of.Given as goal

abbrev pub invariant-loop-document : goal.invariant-loop-document
invariant-loop-document l = (o : Sources) → AreDocuments o l.documents → AreUsable o.usable l.usable → IsTable o l.table
