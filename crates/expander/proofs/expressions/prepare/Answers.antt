use Rattle.std.proofs.Common.{ℕ, ◌+◌, ◌*◌, ◌^◌}
use Rattle.scheme_model.specs.Expression.{whole, expand}
use Rattle.expander.proofs.AfterLaws.{all_known, enough_there}
use Rattle.expander.proofs.LoopLaws.{knows_on}
use Rattle.expander.proofs.PrepareLaws.{prepares, prepares_unread, prepares_unsettled, prepares_err, settles_after}
use Rattle.expander.proofs.expressions.prepare.Goals as goal
use Rattle.noted_steps.specs.Noting.{noting}

pub returns-in_err-form-clause-ready : goal.returns-in_err-form-clause-ready
returns-in_err-form-clause-ready c = λ known turns ls s fs t knows e at works enough.
    let p = expand (noting known) turns c.args.at.depth c.args.at.here fs (whole t) s in
    prepares_err known c.args.at.depth c.args.work.now c.settle.new.work c.args.region.now c.args.units.now c.settle.new.units ls fs p c.from_residual.result c.in_err-form.field-0.0 c.from_residual.ensures.1
    (prepares_unsettled known c.args.at.depth turns c.args.work.now c.settle.new.work c.args.region.now c.args.units.now c.settle.new.units ls fs p c.in_err-form.field-0.0 (c.in_err-form.ensures.settled known turns ls s fs t knows e at works enough))

pub read-requires-clause-look : goal.read-requires-clause-look
read-requires-clause-look c =
    let l = c.requires.look in
    let k = all_known c.args.units.now.libraries in
    let f = c.requires.form in
    let depth = c.args.at.depth in
    let turns : ℕ = (depth + 1) * 2 ^ 40 in
    let settled = c.in_ok-form.ensures.settled k.0 turns l.layout l.state l.frames f.0.0 k.1 l.stands l.at (f.0.1, f.1) (enough_there depth c.args.units.now.form.budget.uses) in
    (settles_after k.0 depth turns c.args.work.now c.settle.new.work c.args.region.now c.args.units.now c.settle.new.units c.args.at.scope l.layout l.frames (c.in_ok-form.form, c.in_ok-form.here) (expand (noting k.0) turns depth c.args.at.here l.frames (whole f.0.0) l.state) l.at settled).look

pub read-requires-clause-form : goal.read-requires-clause-form
read-requires-clause-form c =
    let l = c.requires.look in
    let k = all_known c.args.units.now.libraries in
    let f = c.requires.form in
    let depth = c.args.at.depth in
    let settled = c.in_ok-form.ensures.settled k.0 ((depth + 1) * 2 ^ 40) l.layout l.state l.frames f.0.0 k.1 l.stands l.at (f.0.1, f.1) (enough_there depth c.args.units.now.form.budget.uses) in
    (settled.0, settled.3.0)

pub returns-in_err-ready-clause-ready : goal.returns-in_err-ready-clause-ready
returns-in_err-ready-clause-ready c = λ known turns ls s fs t knows e at works enough.
    let u = c.args.units.now in
    let w = c.settle.new.units in
    let v = c.read.new.units in
    let depth = c.args.at.depth in
    let p = expand (noting known) turns depth c.args.at.here fs (whole t) s in
    let settled = c.in_ok-form.ensures.settled known turns ls s fs t knows e at works enough in
    prepares_err known depth c.args.work.now c.settle.new.work c.args.region.now u v ls fs p c.from_residual-in_err-ready.result c.in_err-ready.field-0.0 c.from_residual-in_err-ready.ensures.1
    (prepares_unread known depth turns c.args.work.now c.settle.new.work c.args.region.now u w v ls fs p (c.in_ok-form.form, c.in_ok-form.here) c.in_err-ready.field-0.0 settled
    (λ t1 s1 stands works1 head. c.in_err-ready.ensures.read known c.args.region.now ls s1 fs t1 (knows_on known u w settled.2.same knows) stands at works1 head))

pub returns-clause-ready : goal.returns-clause-ready
returns-clause-ready c = λ known turns ls s fs t knows e at works enough.
    let u = c.args.units.now in
    let w = c.settle.new.units in
    let v = c.read.new.units in
    let depth = c.args.at.depth in
    let p = expand (noting known) turns depth c.args.at.here fs (whole t) s in
    let settled = c.in_ok-form.ensures.settled known turns ls s fs t knows e at works enough in
    prepares known depth turns c.args.work.now c.settle.new.work c.args.region.now u w v ls fs p (c.in_ok-form.form, c.in_ok-form.here) c.in_ok-ready.ready settled
    (λ t1 s1 stands works1 head. c.in_ok-ready.ensures.read known c.args.region.now ls s1 fs t1 (knows_on known u w settled.2.same knows) stands at works1 head)
