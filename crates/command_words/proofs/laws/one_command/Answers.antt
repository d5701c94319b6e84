use Rattle.command_words.proofs.OneCommand.{one_command}
use Rattle.command_words.proofs.SomeCommand.{some_command}
use Rattle.command_words.proofs.laws.one_command.Goals as goal

pub returns : goal.returns
returns c = record { some = some_command; only = one_command }
