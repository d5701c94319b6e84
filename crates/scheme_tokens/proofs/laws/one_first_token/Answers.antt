use Rattle.scheme_tokens.proofs.Apart as apart
use Rattle.scheme_tokens.proofs.laws.one_first_token.Goals as goal

pub returns : goal.returns
returns c = apart.one_first
