use Rattle.unit_imports.proofs.GivenLaws.{comes_faulty}
use Rattle.unit_imports.proofs.entries.faulty.Goals as goal

pub returns-in_default-clause-exact : goal.returns-in_default-clause-exact
returns-in_default-clause-exact c = λ names r fails. comes_faulty names c.args.fault r c.in_default.not-Memory fails
