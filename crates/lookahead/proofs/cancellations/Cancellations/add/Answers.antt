use Rattle.lookahead.proofs.RoleCounts.{uncounted_either, taken_behind_exit, taken_cancellation, taken_exit, taken_uncounted}
use Rattle.lookahead.proofs.cancellations.Cancellations.add.Goals as goal

pub returns-then-self-clause-ok : goal.returns-then-self-clause-ok
returns-then-self-clause-ok c = λ roles of. taken_behind_exit roles c.args.role.now c.args.self.now c.if-self.true of

pub returns-in_ok-count-in-Cancellation-clause-ok : goal.returns-in_ok-count-in-Cancellation-clause-ok
returns-in_ok-count-in-Cancellation-clause-ok c = λ roles of.
    taken_cancellation roles c.args.role.now _ c.args.self.now c.count.new.self c.in-Cancellation.is c.if-self.false c.count.ensures.closed c.in_ok-count-in-Cancellation.ensures.ok of

pub returns-in-Exit-clause-ok : goal.returns-in-Exit-clause-ok
returns-in-Exit-clause-ok c = λ roles of. taken_exit roles c.args.role.now c.args.self.now c.in-Exit.is c.if-self.false of

pub returns-in-Request-clause-ok : goal.returns-in-Request-clause-ok
returns-in-Request-clause-ok c = λ roles of. taken_uncounted roles c.args.role.now c.args.self.now (uncounted_either c.args.role.now c.in-Request.is) c.if-self.false of

pub returns-in-Request-2-clause-ok : goal.returns-in-Request-2-clause-ok
returns-in-Request-2-clause-ok c = λ roles of. taken_uncounted roles c.args.role.now c.args.self.now (uncounted_either c.args.role.now c.in-Request.is) c.if-self.false of
