use Rattle.std.proofs.Common.{[]}
use Rattle.lookahead.proofs.OneCompletion.{some_completion, only_completion}
use Rattle.lookahead.proofs.laws.one_completion.Goals as goal

pub returns : goal.returns
returns c = record { some = some_completion; only = λ pieces. only_completion pieces [] [] }
