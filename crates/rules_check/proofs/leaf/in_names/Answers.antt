use Rattle.std.proofs.Common.{refl}
use Rattle.syntax_tree.proofs.Looking.{part_there, part_standing, behind_past, split_one}
use Rattle.rules_check.specs.Gathered.{name_leaf, name_leaves}
use Rattle.rules_check.proofs.Gathering.{up_none, up_more, up_all}
use Rattle.rules_check.proofs.leaf.in_names.Goals as goal

pub loop-k-init : goal.loop-k-init
loop-k-init c = λ ts stands. up_none c.args.work.now.symbols name_leaves c.args.leaves.now.items ts 0

pub in_name-requires : goal.in_name-requires
in_name-requires c = part_standing c.args.work.now c.loop-k.k c.args.items.now (record { number = 0 }) c.requires c.loop-k-test.true

pub loop-k-preserved : goal.loop-k-preserved
loop-k-preserved c = λ ts stands.
    let w = c.args.work.now in
    let k = c.loop-k.k in
    let p = part_there w k c.args.items.now ts (record { number = 0 }) stands c.loop-k-test.true in
    up_more w.symbols name_leaves (name_leaf p.part) c.args.leaves.now.items c.loop-k.leaves.items c.in_name.new.leaves.items ts 0 k p.part (c.loop-k.invariant ts stands) (split_one w k ts _ p) refl (c.in_ok-in_name.ensures p.part p.stands)

pub returns : goal.returns
returns c = λ ts stands.
    let w = c.args.work.now in
    up_all w.symbols name_leaves c.args.leaves.now.items c.loop-k.leaves.items ts 0 c.loop-k.k (c.loop-k.invariant ts stands) (behind_past w c.loop-k.k c.args.items.now ts stands c.loop-k-test.false) refl
