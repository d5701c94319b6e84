use Rattle.unit_imports.proofs.MeaningLaws.{standard_is}
use Rattle.unit_imports.proofs.entries.standard_entry.Goals as goal

pub returns-clause-entry : goal.returns-clause-entry
returns-clause-entry c = standard_is c.symbol.new.self c.in_ok-symbol.symbol c.args.name.now c.in_ok-of.field-0 c.in_ok-origin.field-0 c.in_ok-symbol.ensures.ok c.in_ok-of.ensures c.in_ok-origin.ensures
