use Rattle.std.proofs.Common.{◌<◌, length, false, refl, sym, ◌∙◌, arith}
use Rattle.equal_trees.proofs.EqualLaws.{clash, is_not, names_more, name_there}
use Rattle.equal_trees.proofs.rules.same_names.Goals as goal

pub loop-k-preserved : goal.loop-k-preserved
loop-k-preserved c =
    let k = c.loop-k.k in
    let l : k < length c.args.leaves.now = omega arith in
    let m : k < length c.args.others.now = omega arith in
    names_more k c.args.leaves.now c.args.others.now _ _ l m c.loop-k.invariant (c.same_name.ensures.0 c.if-not-same_name.false)

pub returns-then-not-same_name : goal.returns-then-not-same_name
returns-then-not-same_name c =
    let k = c.loop-k.k in
    let l : k < length c.args.leaves.now = omega arith in
    let m : k < length c.args.others.now = omega arith in
    is_not false refl (λ all. clash (sym (c.same_name.ensures.1 (name_there k c.args.leaves.now c.args.others.now _ _ l m c.args.count all c.loop-k-test.true)) ∙ c.if-not-same_name.true))
