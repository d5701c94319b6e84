use Rattle.scheme_tokens.proofs.NameTrees.{datum_name_proper}
use Rattle.scheme_tokens.proofs.laws.names_are_proper.Goals as goal

pub returns : goal.returns
returns c = datum_name_proper
