-- The symbol of an identifier that there is is there.
use Rattle.program_findings.proofs.StandInLaws.{symbol_within}
use Rattle.program_findings.proofs.diagnosing.symbol_of.Goals as goal

pub name-requires : goal.name-requires
name-requires c = symbol_within c.args.symbols.now c.args.name c.strip.result c.requires c.strip.ensures
