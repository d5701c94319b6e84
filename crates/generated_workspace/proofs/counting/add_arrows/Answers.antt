-- One arrow more.
use Rattle.std.proofs.Common.{◌≤◌, length, cond, bytes_eq, arith}
use Rattle.ls_base.specs.declared.answers.Arrow.{Arrow}
use Rattle.generated_workspace.proofs.SumLaws.{sum_more_behind, sum_whole_behind}
use Rattle.generated_workspace.proofs.counting.add_arrows.Goals as goal

pub loop-arrow-preserved : goal.loop-arrow-preserved
loop-arrow-preserved c =
    sum_more_behind (λ (a : Arrow). cond (bytes_eq a.to.uri c.args.uri.now) 1 0) c.args.arrows.now c.loop-arrow.arrow-index c.arrow-item.result (length c.args.ranges.now) (length c.loop-arrow.ranges) (length c.add_arrow.new.ranges) c.loop-arrow-test.true
    c.arrow-item.is c.loop-arrow.invariant c.in_ok-add_arrow.ensures

pub returns : goal.returns
returns c =
    let over : length c.args.arrows.now ≤ c.loop-arrow.arrow-index = omega arith in
    sum_whole_behind (λ (a : Arrow). cond (bytes_eq a.to.uri c.args.uri.now) 1 0) c.args.arrows.now c.loop-arrow.arrow-index (length c.args.ranges.now) (length c.loop-arrow.ranges) over c.loop-arrow.invariant
