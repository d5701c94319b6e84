use Rattle.command_words.proofs.reading.rename_of.Goals as goal
use Rattle.command_words.proofs.Naming.{no_position, rename_at}

pub returns-in-Some : goal.returns-in-Some
returns-in-Some c =
    let four = c.args.four in rename_at four.file four.line four.column four.name c.as_str.result.now c.as_str-2.result.now c.in-Some.position c.as_str.ensures c.as_str-2.ensures c.in-Some.ensures

pub returns-in-None : goal.returns-in-None
returns-in-None c =
    let four = c.args.four in no_position four.file four.line four.column four.name c.as_str.result.now c.as_str-2.result.now c.as_str.ensures c.as_str-2.ensures c.in-None.ensures
