use Rattle.std.proofs.Common.{arith}
use Rattle.syntax_tree.proofs.PartLaws.{next_live, rest_live, sum-next, deepest-next}
use Rattle.syntax_tree.proofs.trees.measures.measure_parts.Goals as goal

pub get-kept-requires : goal.get-kept-requires
get-kept-requires c =
    next_live c.args.pool.now.nodes c.args.parts.now c.loop-part.part-index (record { number = 0 }) c.loop-part-test.true c.loop-part.invariant.live

pub overflow_add-size : goal.overflow_add-size
overflow_add-size c =
    omega (arith, c.requires.fits, c.loop-part.invariant.sum, sum-next c.args.pool.now.nodes c.args.parts.now c.loop-part.part-index (record { number = 0 }) c.get-kept.result.now c.loop-part-test.true c.get-kept.ensures)

pub loop-part-preserved : goal.loop-part-preserved
loop-part-preserved c =
    record {
      live = rest_live c.args.pool.now.nodes c.args.parts.now c.loop-part.part-index (record { number = 0 }) c.loop-part-test.true c.loop-part.invariant.live;
      sum = omega (arith, c.loop-part.invariant.sum, sum-next c.args.pool.now.nodes c.args.parts.now c.loop-part.part-index (record { number = 0 }) c.get-kept.result.now c.loop-part-test.true c.get-kept.ensures);
      most = omega (arith, c.loop-part.invariant.most, c.max-depth.ensures, deepest-next c.args.pool.now.nodes c.args.parts.now c.loop-part.part-index (record { number = 0 }) c.get-kept.result.now c.loop-part-test.true c.get-kept.ensures);
    }
