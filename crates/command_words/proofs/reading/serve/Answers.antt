use Rattle.std.proofs.Common.{◌∙◌, refl, sym}
use Rattle.command_words.specs.ClapWords.{seen}
use Rattle.std.proofs.lemmas.Bool.{false≢true}
use Rattle.command_words.proofs.Naming.{no_serve}
use Rattle.command_words.proofs.reading.serve.Goals as goal

pub returns-then-alone : goal.returns-then-alone
returns-then-alone c = (refl, c.in_ok-alone.ensures.0 c.if-alone.true)

pub returns-else-alone : goal.returns-else-alone
returns-else-alone c = no_serve (seen c.args.words.now) (λ none. false≢true (sym c.if-alone.false ∙ c.in_ok-alone.ensures.1 none))
