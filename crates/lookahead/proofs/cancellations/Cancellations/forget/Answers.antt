use Rattle.lookahead.proofs.Names.{lowered_name}
use Rattle.lookahead.proofs.cancellations.Cancellations.forget.Goals as goal

pub returns-in-Name-clause-counted : goal.returns-in-Name-clause-counted
returns-in-Name-clause-counted c = lowered_name c.args.self.now c.lower-in-Name.new.counts _ _ c.in-Name.is c.lower-in-Name.ensures
