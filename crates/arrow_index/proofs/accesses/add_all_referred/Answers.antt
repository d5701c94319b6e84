use Rattle.std.proofs.Common.{◌≡◌, ◌++◌, map, sym, arith}
use Rattle.std.proofs.Math.ListN.{drop_of_length-le}
use Rattle.std.proofs.lemmas.List.{append-nil}
use Rattle.scheme_model.specs.Accesses.{referred_in}
use Rattle.program_leaves.specs.Placed.{placed_of}
use Rattle.arrow_index.proofs.AccessLaws.{referred-append}
use Rattle.program_leaves.proofs.PlaceSteps.{both_added}
use Rattle.program_leaves.proofs.StepLaws.{next_leaf, passed_none, passed_more, passed_all}
use Rattle.arrow_index.proofs.accesses.add_all_referred.Goals as goal

pub loop-leaf-init : goal.loop-leaf-init
loop-leaf-init c = λ w ls seen. passed_none w (map placed_of c.args.leaves.now) ls _ seen (sym (append-nil c.args.places.now.items))

pub loop-leaf-preserved : goal.loop-leaf-preserved
loop-leaf-preserved c = λ w ls seen.
    let p = c.loop-leaf.invariant w ls seen in
    let n = next_leaf w c.args.leaves.now c.loop-leaf.leaf-index c.leaf-item.result p.rest (omega arith) c.leaf-item.is p.still in
    passed_more w c.args.leaves.now c.loop-leaf.leaf-index c.leaf-item.result ls _ _ p n
    (both_added c.args.places.now.items c.loop-leaf.places.items c.add_referred.new.places.items (referred_in p.done) (referred_in n.front) (referred_in (p.done ++ n.front)) p.holds (c.in_ok-add_referred.ensures w n.front n.is) (referred-append p.done n.front))

pub returns : goal.returns
returns c = λ w ls seen.
    passed_all w c.args.leaves.now c.loop-leaf.leaf-index ls (λ done. c.loop-leaf.places.items ≡ c.args.places.now.items ++ referred_in done) (c.loop-leaf.invariant w ls seen) (drop_of_length-le c.args.leaves.now (omega arith))
