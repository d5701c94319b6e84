use Rattle.std.proofs.Common.{◌<◌, ◌≤◌, length, arith}
use Rattle.core_tree.specs.Names.{AllMatch}
use Rattle.moved_numbers.specs.Standing.{UnitMoves}
use Rattle.moved_numbers.specs.Values.{unit_as}
use Rattle.moves.specs.Numbers.{numbers_of}
use Rattle.moved_numbers.proofs.Fronts.{Becomes, front_more, front_all, all_related, all_mapped}
use Rattle.moved_numbers.proofs.program.all_units.Goals as goal

pub loop-i-preserved : goal.loop-i-preserved
loop-i-preserved c =
    let r = numbers_of c.args.moves.now in
    let lt : c.loop-i.i < length c.loop-i.all.items = omega (arith, c.loop-i.invariant.length_is) in
    front_more (Becomes (UnitMoves r) (unit_as r)) c.args.all.now.items c.loop-i.all.items c.loop-i.i c.index_mut.result.now c.unit.new.it c.loop-i.invariant lt c.index_mut.ensures.value (c.unit.ensures.forms, c.unit.ensures.value)

pub returns-clause-forms : goal.returns-clause-forms
returns-clause-forms c =
    let r = numbers_of c.args.moves.now in
    let end : length c.loop-i.all.items ≤ c.loop-i.i = omega (arith, c.loop-i.invariant.length_is) in
    let all : AllMatch (Becomes (UnitMoves r) (unit_as r)) c.args.all.now.items c.loop-i.all.items = front_all (Becomes (UnitMoves r) (unit_as r)) c.args.all.now.items c.loop-i.all.items c.loop-i.i c.loop-i.invariant end in
    all_related (UnitMoves r) (unit_as r) c.args.all.now.items c.loop-i.all.items all

pub returns-clause-value : goal.returns-clause-value
returns-clause-value c =
    let r = numbers_of c.args.moves.now in
    let end : length c.loop-i.all.items ≤ c.loop-i.i = omega (arith, c.loop-i.invariant.length_is) in
    let all : AllMatch (Becomes (UnitMoves r) (unit_as r)) c.args.all.now.items c.loop-i.all.items = front_all (Becomes (UnitMoves r) (unit_as r)) c.args.all.now.items c.loop-i.all.items c.loop-i.i c.loop-i.invariant end in
    all_mapped (UnitMoves r) (unit_as r) c.args.all.now.items c.loop-i.all.items all
