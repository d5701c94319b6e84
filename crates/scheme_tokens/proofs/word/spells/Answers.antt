use Rattle.std.proofs.Common.{◌∙◌, sym}
use Rattle.std.specs.Str.{chars}
use Rattle.scheme_tokens.proofs.WordLaws.{spells-short, is_empty-chars, spells-done}
use Rattle.scheme_tokens.proofs.word.spells.Goals as goal

pub returns-in_default : goal.returns-in_default
returns-in_default c =
    sym (spells-short (chars c.loop-letter.rest.now) c.args.letters.now c.loop-letter.letter-index c.in_default.ensures.none c.loop-letter-test.true)
    ∙ c.loop-letter.invariant.goes

pub returns : goal.returns
returns c =
    c.is_empty.ensures ∙ is_empty-chars c.loop-letter.rest.now c.loop-letter.invariant.utf8
    ∙ spells-done (chars c.loop-letter.rest.now) c.args.letters.now c.loop-letter.letter-index c.loop-letter-test.false ∙ c.loop-letter.invariant.goes
