use Rattle.std.proofs.Common.{arith}
use Rattle.std.specs.BTreeMap.{get}
use Rattle.program_leaves.specs.Placed.{local_cmp}
use Rattle.program_leaves.proofs.KeyLaws.{local_more}
use Rattle.program_leaves.proofs.gathering.locals_of.Goals as goal

pub loop-leaf-preserved : goal.loop-leaf-preserved
loop-leaf-preserved c = λ k.
    local_more c.args.leaves.now c.loop-leaf.leaf-index c.leaf-item.result k (get local_cmp c.loop-leaf.locals k) (get local_cmp c.add_local.new.locals k) (omega arith) c.leaf-item.is (c.loop-leaf.invariant k) (c.in_ok-add_local.ensures k)
