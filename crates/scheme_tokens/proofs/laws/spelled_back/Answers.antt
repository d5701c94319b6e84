use Rattle.scheme_tokens.proofs.Same.Spelling as spelling
use Rattle.scheme_tokens.proofs.laws.spelled_back.Goals as goal

pub returns : goal.returns
returns c = λ name text bars h. spelling.spelled_back name text bars h
