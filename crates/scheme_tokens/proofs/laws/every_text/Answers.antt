use Rattle.scheme_tokens.proofs.EveryText as texts
use Rattle.scheme_tokens.proofs.laws.every_text.Goals as goal

pub returns : goal.returns
returns c = λ text. texts.every_text text
