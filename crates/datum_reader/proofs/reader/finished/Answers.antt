use Rattle.std.proofs.Common.{ap}
use Rattle.datum_reader.specs.Open.{finished, left_open}
use Rattle.datum_reader.specs.Views.{data_of}
use Rattle.datum_reader.specs.OpenViews.{spot_of, opener_of}
use Rattle.datum_reader.proofs.StackLaws.{stack_push, told_stop}
use Rattle.datum_reader.proofs.reader.finished.Goals as goal

pub returns-in-Some : goal.returns-in-Some
returns-in-Some c =
    told_stop c.left_open.result (left_open (opener_of c.in-Some.frame.opener) (spot_of c.in-Some.frame.spot)) _ c.left_open.ensures
    (ap (finished (data_of c.args.state.items.items)) (stack_push c.pop.new.self.items c.args.state.stack.items c.in-Some.frame c.in-Some.ensures.items))
