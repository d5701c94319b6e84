use Rattle.std.proofs.Common.{◌≡◌, ◌++◌, map, sym, arith}
use Rattle.std.proofs.Math.ListN.{drop_of_length-le}
use Rattle.std.proofs.lemmas.List.{append-nil}
use Rattle.scheme_model.specs.ProgramArrows.{leaf_binders}
use Rattle.program_leaves.specs.Placed.{placed_of}
use Rattle.arrow_index.proofs.BinderLaws.{binders-append}
use Rattle.program_leaves.proofs.PlaceSteps.{both_added}
use Rattle.program_leaves.proofs.StepLaws.{next_leaf, passed_none, passed_more, passed_all, seen_item}
use Rattle.arrow_index.proofs.binders.add_core_binders.Goals as goal

pub loop-leaf-init : goal.loop-leaf-init
loop-leaf-init c = λ ls seen. passed_none c.args.work.now (map placed_of c.args.leaves.now) ls _ seen (sym (append-nil c.args.places.now.items))

pub add_leaf_binders-requires : goal.add_leaf_binders-requires
add_leaf_binders-requires c = seen_item c.args.work.now c.args.leaves.now c.loop-leaf.leaf-index c.leaf-item.result c.requires.0 c.requires.1 (omega arith) c.leaf-item.is

pub loop-leaf-preserved : goal.loop-leaf-preserved
loop-leaf-preserved c = λ ls seen.
    let w = c.args.work.now in
    let p = c.loop-leaf.invariant ls seen in
    let n = next_leaf w c.args.leaves.now c.loop-leaf.leaf-index c.leaf-item.result p.rest (omega arith) c.leaf-item.is p.still in
    passed_more w c.args.leaves.now c.loop-leaf.leaf-index c.leaf-item.result ls _ _ p n
    (both_added c.args.places.now.items c.loop-leaf.places.items c.add_leaf_binders.new.places.items (leaf_binders p.done) (leaf_binders n.front) (leaf_binders (p.done ++ n.front)) p.holds (c.in_ok-add_leaf_binders.ensures n.front n.is)
    (binders-append p.done n.front))

pub returns : goal.returns
returns c = λ ls seen.
    passed_all c.args.work.now c.args.leaves.now c.loop-leaf.leaf-index ls (λ done. c.loop-leaf.places.items ≡ c.args.places.now.items ++ leaf_binders done) (c.loop-leaf.invariant ls seen) (drop_of_length-le c.args.leaves.now (omega arith))
