use Rattle.scheme_model.specs.Entries.{pair_of}
use Rattle.import_sets.specs.Sets.{paired}
use Rattle.datum_reader.specs.Forms.{place}
use Rattle.unit_sources.proofs.TreeRows.{UpTo}
use Rattle.unit_sources.proofs.names.pairs_of.Given as goal

abbrev pub invariant-loop-datum : goal.invariant-loop-datum
invariant-loop-datum l = UpTo paired pair_of (place l.home) l.parts l.datum-index l.pairs
