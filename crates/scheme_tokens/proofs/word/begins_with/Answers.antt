use Rattle.std.proofs.Common.{◌∙◌, sym}
use Rattle.std.specs.Str.{chars}
use Rattle.scheme_tokens.proofs.WordLaws.{begins_with-short}
use Rattle.scheme_tokens.proofs.word.begins_with.Goals as goal

pub returns-in_default : goal.returns-in_default
returns-in_default c =
    sym (begins_with-short (chars c.loop-letter.rest.now) c.args.letters.now c.loop-letter.letter-index c.in_default.ensures.none c.loop-letter-test.true)
    ∙ c.loop-letter.invariant.goes
