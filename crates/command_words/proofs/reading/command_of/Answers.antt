use Rattle.std.proofs.Common.{◌∙◌, sym}
use Rattle.std.proofs.lemmas.Bool.{false≢true}
use Rattle.command_words.specs.Words.{texts}
use Rattle.command_words.proofs.AheadWords.{is_ahead, not_ahead}
use Rattle.command_words.proofs.reading.command_of.Goals as goal

pub returns-then-is_ahead : goal.returns-then-is_ahead
returns-then-is_ahead c = is_ahead (texts c.args.words.now) (c.is_ahead.ensures.0 c.if-is_ahead.true)

pub returns : goal.returns
returns c = not_ahead (texts c.args.words.now) c.in_ok-command.command (λ ahead. false≢true (sym c.if-is_ahead.false ∙ c.is_ahead.ensures.1 ahead)) c.in_ok-command.ensures
