use Rattle.std.proofs.Common.{◌<◌, length, set, ap, ◌∙◌, arith}
use Rattle.std.proofs.lemmas.List.Edits.{map_over_more}
use Rattle.moves.specs.Numbers.{numbers_of}
use Rattle.moved_numbers.specs.Leaves.{binder_as}
use Rattle.moved_numbers.proofs.Fronts.{map_over_all, each_is}
use Rattle.moved_numbers.proofs.leaves.binders.Goals as goal

pub loop-i-preserved : goal.loop-i-preserved
loop-i-preserved c =
    let f = binder_as (numbers_of c.args.moves.now) in
    let xs = c.args.all.now.items in
    let ys = c.loop-i.all.items in
    let lt : c.loop-i.i < length xs = omega arith in
    record {
      items = ap (set ys c.loop-i.i) c.binder.ensures ∙ map_over_more f xs ys c.loop-i.i c.index.result.now lt c.loop-i.invariant.items c.index.ensures;
      block = c.loop-i.invariant.block;
    }

pub returns-clause-items : goal.returns-clause-items
returns-clause-items c = map_over_all (binder_as (numbers_of c.args.moves.now)) c.args.all.now.items c.loop-i.all.items c.loop-i.i (omega arith) c.loop-i.invariant.items

pub returns-clause-value : goal.returns-clause-value
returns-clause-value c =
    let f = binder_as (numbers_of c.args.moves.now) in
    each_is f c.args.all.now c.loop-i.all c.loop-i.invariant.block (map_over_all f c.args.all.now.items c.loop-i.all.items c.loop-i.i (omega arith) c.loop-i.invariant.items)
