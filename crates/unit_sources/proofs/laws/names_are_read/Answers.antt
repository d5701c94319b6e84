use Rattle.unit_sources.proofs.SpelledSources.{imports_spelled, source_spelled}
use Rattle.unit_sources.proofs.laws.names_are_read.Goals as goal

pub returns : goal.returns
returns c = record { imports = imports_spelled; name = source_spelled }
