use Rattle.std.proofs.Common.{◌++◌, map, arith}
use Rattle.std.specs.BTreeSet.{contains}
use Rattle.std.proofs.Math.ListN.{drop_of_length-le}
use Rattle.scheme_model.specs.ProgramArrows.{any, leaf_at}
use Rattle.program_leaves.specs.Placed.{occ_cmp, placed_of}
use Rattle.program_leaves.specs.Sights.{Grows}
use Rattle.program_leaves.proofs.LiveLaws.{or_none, any-append, grows_both}
use Rattle.program_leaves.proofs.StepLaws.{next_leaf, passed_none, passed_more, passed_all, seen_item}
use Rattle.program_leaves.proofs.living.add_live_leaves.Goals as goal

pub loop-leaf-init : goal.loop-leaf-init
loop-leaf-init c = λ ls seen. passed_none c.args.work.now (map placed_of c.args.leaves.now) ls _ seen (λ o. or_none (contains occ_cmp c.args.live.now o))

pub add_live_leaf-requires : goal.add_live_leaf-requires
add_live_leaf-requires c = seen_item c.args.work.now c.args.leaves.now c.loop-leaf.leaf-index c.leaf-item.result c.requires.0 c.requires.1 (omega arith) c.leaf-item.is

pub loop-leaf-preserved : goal.loop-leaf-preserved
loop-leaf-preserved c = λ ls seen.
    let w = c.args.work.now in
    let p = c.loop-leaf.invariant ls seen in
    let n = next_leaf w c.args.leaves.now c.loop-leaf.leaf-index c.leaf-item.result p.rest (omega arith) c.leaf-item.is p.still in
    passed_more w c.args.leaves.now c.loop-leaf.leaf-index c.leaf-item.result ls _ _ p n
    (λ o. grows_both (contains occ_cmp c.args.live.now o) (contains occ_cmp c.loop-leaf.live o) (contains occ_cmp c.add_live_leaf.new.live o) (any (leaf_at o) p.done) (any (leaf_at o) n.front) (any (leaf_at o) (p.done ++ n.front))
    (p.holds o) (c.in_ok-add_live_leaf.ensures n.front n.is o) (any-append (leaf_at o) p.done n.front))

pub returns : goal.returns
returns c = λ ls seen.
    passed_all c.args.work.now c.args.leaves.now c.loop-leaf.leaf-index ls (λ done. Grows c.args.live.now c.loop-leaf.live (λ o. any (leaf_at o) done)) (c.loop-leaf.invariant ls seen) (drop_of_length-le c.args.leaves.now (omega arith))
