use Rattle.std.proofs.Common.{arith}
use Rattle.scheme_tokens.specs.Views.{kind_of}
use Rattle.scheme_tokens.proofs.TokenLaws.{some_word}
use Rattle.scheme_tokens.proofs.scan.word_token.Goals as goal

pub returns-in-Ok-clause-within : goal.returns-in-Ok-clause-within
returns-in-Ok-clause-within c = omega (arith, some_word c.split_front.result.0.now (kind_of c.in-Ok.kind) c.in-Ok.ensures, c.split_front.ensures.sizes)
