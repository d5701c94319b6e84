use Rattle.std.proofs.Common.{◌≡◌, ◌+◌, ◌-◌, Some, sym, ap, ◌∙◌, arith}
use Rattle.std.specs.FinMap as map
use Rattle.std.proofs.lemmas.Option.{same_Some}
use Rattle.node_pool.specs.NodePool.{back_to}
use Rattle.node_pool.proofs.BackLaws.{undone}
use Rattle.node_pool.proofs.ShorterLaws.{none_gone, count_left, one_gone}
use Rattle.node_pool.proofs.pool.Pool.shorten.Goals as goal

pub loop-left-init : goal.loop-left-init
loop-left-init g c =
    let h = c.requires in
    let found = same_Some h.0 c.count-left.result (sym h.1 ∙ c.count-left.ensures.count) in
    (none_gone c.args.self.now c.args.region c.count-left.result c.count-left.ensures.count c.count-left.ensures.ranks, omega (arith, found, h.2))

pub drop_last-requires : goal.drop_last-requires
drop_last-requires g c =
    let k = c.loop-left.left - 1 in
    let more : c.loop-left.left ≡ k + 1 = omega arith in
    (k, count_left c.args.self.now c.loop-left.self c.args.region c.loop-left.left c.loop-left.invariant.0 ∙ ap Some more)

pub loop-left-preserved : goal.loop-left-preserved
loop-left-preserved g c =
    let k = c.loop-left.left - 1 in
    let more : c.loop-left.left ≡ k + 1 = omega arith in
    let got = count_left c.args.self.now c.loop-left.self c.args.region c.loop-left.left c.loop-left.invariant.0 ∙ ap Some more in
    let done = c.drop_last.ensures in (
      one_gone c.args.self.now c.loop-left.self c.drop_last.new.self c.args.region c.loop-left.left k c.loop-left.invariant.0 more (done.nodes k got) (done.regions k got) done.identity done.one_less done.room,
      omega (arith, c.loop-left.invariant.1),
    )

pub returns-clause-nodes : goal.returns-clause-nodes
returns-clause-nodes g c =
    let same : c.loop-left.left ≡ c.args.count = omega (arith, c.loop-left.invariant.1) in
    c.loop-left.invariant.0.nodes ∙ ap (back_to c.args.self.now.nodes c.args.region) same

pub returns-clause-regions : goal.returns-clause-regions
returns-clause-regions g c =
    let same : c.loop-left.left ≡ c.args.count = omega (arith, c.loop-left.invariant.1) in
    c.loop-left.invariant.0.regions ∙ ap (map.insert c.args.self.now.regions c.args.region) same

pub returns-clause-undone : goal.returns-clause-undone
returns-clause-undone g c before had adds = returns-clause-nodes g c ∙ undone before c.args.self.now.nodes c.args.region c.args.count c.count-left.result had c.count-left.ensures.ranks adds

pub returns-clause-live : goal.returns-clause-live
returns-clause-live g c k is =
    let same : c.loop-left.left ≡ c.args.count = omega (arith, c.loop-left.invariant.1) in
    omega (arith, same, c.loop-left.invariant.0.live k is)
