use Rattle.scheme_tokens.proofs.Apart as apart
use Rattle.scheme_tokens.proofs.laws.tokens_apart.Goals as goal

pub returns : goal.returns
returns c = apart.tokens_apart
