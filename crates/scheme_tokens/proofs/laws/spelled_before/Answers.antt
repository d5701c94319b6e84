use Rattle.scheme_tokens.proofs.Apart as apart
use Rattle.scheme_tokens.proofs.laws.spelled_before.Goals as goal

pub returns : goal.returns
returns c = apart.spelled_before
