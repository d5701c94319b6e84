use Rattle.datum_reader.proofs.DatumLaws.{run_pushed}
use Rattle.datum_reader.proofs.tail.run_more.Goals as goal

pub returns : goal.returns
returns c = λ end. run_pushed end c.args.runs.items c.push.new.self.items c.args.run c.in_ok-push.ensures.items
