use Rattle.program_moves.proofs.PairLaws.{sent_forms}
use Rattle.program_moves.proofs.tables.form_numbers.Goals as goal

pub returns-clause-sent : goal.returns-clause-sent
returns-clause-sent c =
    sent_forms c.args.pair.now c.requires c.send_behind.new.numbers.forth.items c.send_run.new.numbers.forth.items c.send_run-2.new.numbers.forth.items
    c.send_behind.ensures.sent c.send_run.ensures.sent c.send_run.ensures.others c.send_run-2.ensures.sent c.send_run-2.ensures.others
