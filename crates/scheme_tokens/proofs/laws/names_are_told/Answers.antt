use Rattle.scheme_tokens.proofs.EveryName.{text_of, text_tells, text_of-proper}
use Rattle.scheme_tokens.proofs.laws.names_are_told.Goals as goal

pub returns : goal.returns
returns c = (text_of, text_tells, text_of-proper)
