use Rattle.std.proofs.Common.{List, subst}
use Rattle.command_words.specs.Commands.{PositionalOf}
use Rattle.command_words.specs.Words.{Word}
use Rattle.command_words.proofs.Naming.{all_words}
use Rattle.command_words.proofs.reading.positional_command.Goals as goal

pub returns-in_ok-command-in-len1-up : goal.returns-in_ok-command-in-len1-up
returns-in_ok-command-in-len1-up c =
    let P : List Word → Type 0 = λ ws. PositionalOf ws c.in_ok-command-in-len1-up.command in
    subst P (all_words c.args.words.now c.rest_of.result.now c.first-item.result c.as_str.result.now c.in-len1-up.len_at_least c.first-item.is c.as_str.ensures.value c.rest_of.ensures) c.in_ok-command-in-len1-up.ensures
