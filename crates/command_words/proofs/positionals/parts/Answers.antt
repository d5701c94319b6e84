use Rattle.std.proofs.Common.{sym, arith}
use Rattle.command_words.proofs.PositionalLaws.{all_front, back_taken, front_is, no_back}
use Rattle.command_words.proofs.positionals.parts.Goals as goal

pub returns-in-Some-clause-front : goal.returns-in-Some-clause-front
returns-in-Some-clause-front c = front_is c.args.words.now c.in-Some.at _ (sym c.in-Some.ensures) (omega arith)

pub returns-in-Some-clause-back : goal.returns-in-Some-clause-back
returns-in-Some-clause-back c = back_taken c.args.words.now c.in-Some.at _ _ (sym c.in-Some.ensures) (omega arith) (omega arith)

pub returns-in-None-clause-front : goal.returns-in-None-clause-front
returns-in-None-clause-front c = all_front c.args.words.now (sym c.in-None.ensures)

pub returns-in-None-clause-back : goal.returns-in-None-clause-back
returns-in-None-clause-back c = no_back c.args.words.now (sym c.in-None.ensures)
