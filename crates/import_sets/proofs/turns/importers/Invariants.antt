use Rattle.import_sets.proofs.ImporterLaws.{AreImportersBelow}
use Rattle.import_sets.proofs.turns.importers.Given as goal

abbrev pub invariant-loop-place : goal.invariant-loop-place
invariant-loop-place l = AreImportersBelow l.graph l.rows.items l.place
