use Rattle.std.proofs.Common.{◌<◌, ◌≤◌, length, arith}
use Rattle.moves.specs.Numbers.{numbers_of}
use Rattle.moved_numbers.proofs.Fronts.{front_more, front_all}
use Rattle.moved_entries.specs.Left.{KeptMoves}
use Rattle.moved_entries.proofs.left.items.Goals as goal

pub loop-i-preserved : goal.loop-i-preserved
loop-i-preserved c =
    let lt : c.loop-i.i < length c.loop-i.all.items = omega (arith, c.loop-i.invariant.length_is) in
    front_more (λ x y. KeptMoves (numbers_of c.args.moves.now) x.kept y.kept) c.args.all.now.items c.loop-i.all.items c.loop-i.i c.index_mut.result.now (record { kept = c.kept.new.it }) c.loop-i.invariant lt c.index_mut.ensures.value c.kept.ensures

pub returns : goal.returns
returns c =
    let end : length c.loop-i.all.items ≤ c.loop-i.i = omega (arith, c.loop-i.invariant.length_is) in
    front_all (λ x y. KeptMoves (numbers_of c.args.moves.now) x.kept y.kept) c.args.all.now.items c.loop-i.all.items c.loop-i.i c.loop-i.invariant end
