use Rattle.std.proofs.Common.{◌≡◌, ◌++◌, map, sym, arith}
use Rattle.std.proofs.Math.ListN.{drop_of_length-le}
use Rattle.std.proofs.lemmas.List.{append-nil}
use Rattle.scheme_model.specs.Accesses.{assigned_in}
use Rattle.program_leaves.specs.Placed.{placed_of}
use Rattle.arrow_index.proofs.AccessLaws.{assigned-append}
use Rattle.program_leaves.proofs.PlaceSteps.{both_added}
use Rattle.program_leaves.proofs.StepLaws.{next_leaf, passed_none, passed_more, passed_all}
use Rattle.arrow_index.proofs.accesses.add_all_assigned.Goals as goal

pub loop-leaf-init : goal.loop-leaf-init
loop-leaf-init c = λ w ls seen. passed_none w (map placed_of c.args.leaves.now) ls _ seen (sym (append-nil c.args.places.now.items))

pub loop-leaf-preserved : goal.loop-leaf-preserved
loop-leaf-preserved c = λ w ls seen.
    let p = c.loop-leaf.invariant w ls seen in
    let n = next_leaf w c.args.leaves.now c.loop-leaf.leaf-index c.leaf-item.result p.rest (omega arith) c.leaf-item.is p.still in
    passed_more w c.args.leaves.now c.loop-leaf.leaf-index c.leaf-item.result ls _ _ p n
    (both_added c.args.places.now.items c.loop-leaf.places.items c.add_assigned.new.places.items (assigned_in p.done) (assigned_in n.front) (assigned_in (p.done ++ n.front)) p.holds (c.in_ok-add_assigned.ensures w n.front n.is) (assigned-append p.done n.front))

pub returns : goal.returns
returns c = λ w ls seen.
    passed_all w c.args.leaves.now c.loop-leaf.leaf-index ls (λ done. c.loop-leaf.places.items ≡ c.args.places.now.items ++ assigned_in done) (c.loop-leaf.invariant w ls seen) (drop_of_length-le c.args.leaves.now (omega arith))
