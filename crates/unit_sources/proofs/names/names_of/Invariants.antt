use Rattle.scheme_model.specs.Shapes.{name_of}
use Rattle.import_sets.specs.Sets.{named}
use Rattle.datum_reader.specs.Forms.{place}
use Rattle.unit_sources.proofs.TreeRows.{UpTo}
use Rattle.unit_sources.proofs.names.names_of.Given as goal

abbrev pub invariant-loop-datum : goal.invariant-loop-datum
invariant-loop-datum l = UpTo named name_of (place l.home) l.parts l.datum-index l.names
