use Rattle.std.proofs.Common.{◌≡◌, [], ◌++◌, map, refl, arith}
use Rattle.std.proofs.Math.ListN.{drop_of_length-le}
use Rattle.scheme_model.specs.ProgramArrows.{binder_of, is_live_at}
use Rattle.program_leaves.specs.Placed.{placed_of}
use Rattle.program_leaves.specs.Pairs.{as_arrow}
use Rattle.program_leaves.specs.Variables.{all_arrows_at}
use Rattle.program_leaves.proofs.Growing.{grows_by_none, grows_twice}
use Rattle.program_leaves.proofs.StepLaws.{leaves-append, next_leaf, passed_none, passed_more, passed_all, seen_item}
use Rattle.arrow_index.proofs.arrows.add_leaves.Goals as goal

pub loop-leaf-init : goal.loop-leaf-init
loop-leaf-init c = λ leaves keywords names table ls sees seen.
    passed_none c.args.work.now (map placed_of c.args.found.now) ls _ seen (grows_by_none as_arrow c.args.pairs.now.items [] refl)

pub add_leaf-requires : goal.add_leaf-requires
add_leaf-requires c =
    seen_item c.args.work.now c.args.found.now c.loop-leaf.leaf-index c.leaf-item.result c.requires.0 c.requires.1 (omega arith) c.leaf-item.is

pub loop-leaf-preserved : goal.loop-leaf-preserved
loop-leaf-preserved c = λ leaves keywords names table ls sees seen.
    let w = c.args.work.now in
    let all = all_arrows_at (binder_of leaves table) (is_live_at leaves keywords names) in
    let p = c.loop-leaf.invariant leaves keywords names table ls sees seen in
    let n = next_leaf w c.args.found.now c.loop-leaf.leaf-index c.leaf-item.result p.rest (omega arith) c.leaf-item.is p.still in
    passed_more w c.args.found.now c.loop-leaf.leaf-index c.leaf-item.result ls _ _ p n
    (grows_twice as_arrow c.args.pairs.now.items c.loop-leaf.pairs.items c.add_leaf.new.pairs.items (all p.done) (all n.front) (all (p.done ++ n.front)) p.holds
    (c.in_ok-add_leaf.ensures leaves keywords names table n.front sees n.is) (leaves-append (binder_of leaves table) (is_live_at leaves keywords names) p.done n.front))

pub returns : goal.returns
returns c = λ leaves keywords names table ls sees seen.
    passed_all c.args.work.now c.args.found.now c.loop-leaf.leaf-index ls (λ done. map as_arrow c.loop-leaf.pairs.items ≡ map as_arrow c.args.pairs.now.items ++ all_arrows_at (binder_of leaves table) (is_live_at leaves keywords names) done)
    (c.loop-leaf.invariant leaves keywords names table ls sees seen) (drop_of_length-le c.args.found.now (omega arith))
