use Rattle.std.proofs.Common.{◌≡◌, List, [], ◌++◌, map, refl, arith}
use Rattle.std.proofs.Math.ListN.{drop_of_length-le}
use Rattle.scheme_model.specs.Live.{CoreLeaf}
use Rattle.scheme_model.specs.ProgramArrows.{core_targets}
use Rattle.scheme_model.specs.Spelling.{target_links}
use Rattle.program_leaves.specs.Placed.{placed_of}
use Rattle.program_leaves.proofs.Growing.{grows_by_none, grows_twice}
use Rattle.program_leaves.proofs.StepLaws.{next_leaf, passed_none, passed_more, passed_all, seen_item}
use Rattle.arrow_index.specs.Links.{as_link}
use Rattle.arrow_index.proofs.LinkLaws.{uses-append}
use Rattle.arrow_index.proofs.use_links.link_uses.Goals as goal

pub loop-leaf-init : goal.loop-leaf-init
loop-leaf-init c = λ leaves keywords names table rs ls sees gives seen.
    passed_none c.args.work.now (map placed_of c.args.found.now) ls _ seen (grows_by_none as_link c.args.links.now.items [] refl)

pub link_use-requires-clause-leaf : goal.link_use-requires-clause-leaf
link_use-requires-clause-leaf c =
    seen_item c.args.work.now c.args.found.now c.loop-leaf.leaf-index c.leaf-item.result c.requires.leaves.0 c.requires.leaves.1 (omega arith) c.leaf-item.is

pub loop-leaf-preserved : goal.loop-leaf-preserved
loop-leaf-preserved c = λ leaves keywords names table rs ls sees gives seen.
    let w = c.args.work.now in
    let all = λ (done : List CoreLeaf). target_links leaves table rs (core_targets done) in
    let p = c.loop-leaf.invariant leaves keywords names table rs ls sees gives seen in
    let n = next_leaf w c.args.found.now c.loop-leaf.leaf-index c.leaf-item.result p.rest (omega arith) c.leaf-item.is p.still in
    passed_more w c.args.found.now c.loop-leaf.leaf-index c.leaf-item.result ls _ _ p n
    (grows_twice as_link c.args.links.now.items c.loop-leaf.links.items c.link_use.new.links.items (all p.done) (all n.front) (all (p.done ++ n.front)) p.holds
    (c.in_ok-link_use.ensures leaves keywords names table rs n.front sees gives n.is) (uses-append leaves table rs p.done n.front))

pub returns : goal.returns
returns c = λ leaves keywords names table rs ls sees gives seen.
    passed_all c.args.work.now c.args.found.now c.loop-leaf.leaf-index ls (λ done. map as_link c.loop-leaf.links.items ≡ map as_link c.args.links.now.items ++ target_links leaves table rs (core_targets done))
    (c.loop-leaf.invariant leaves keywords names table rs ls sees gives seen) (drop_of_length-le c.args.found.now (omega arith))
