-- Where memory runs out for the words, nothing is done.
use Rattle.std.proofs.Common.{refl, inr}
use Rattle.command_words.specs.Words.{texts}
use Rattle.command_words.proofs.SomeCommand.{some_command}
use Rattle.command_output.specs.declared.status.Status.TheVariants.{NoMemory}
use Rattle.scheme_ls.proofs.run.run.Goals as goal

pub returns-in_default : goal.returns-in_default
returns-in_default g c =
    let it = some_command (texts c.args.words.now) in
    record { command = it.0; asked = it.1; status = NoMemory; ends = inr (refl, refl); number = c.code.ensures }
