use Rattle.std.proofs.Common.{◌<◌, ◌≤◌, length, arith}
use Rattle.core_tree.specs.Names.{AllMatch, IsMacro}
use Rattle.core_tree.specs.declared.cores.MacroDef.{MacroDef}
use Rattle.renumbering_laws.specs.Renumbering.{Renumbering, macro_of}
use Rattle.moved_numbers.specs.Standing.{StandsOn}
use Rattle.moved_numbers.specs.Values.{macro_as}
use Rattle.moves.specs.Numbers.{numbers_of}
use Rattle.moved_numbers.proofs.Fronts.{Becomes, front_more, front_all, all_on, each_is, all_related, all_mapped}
use Rattle.moved_numbers.proofs.cores.macro_defs.Goals as goal

abbrev On : Renumbering → MacroDef → MacroDef → Type 0
On r = StandsOn r IsMacro (macro_of r)

pub loop-i-preserved : goal.loop-i-preserved
loop-i-preserved c =
    let r = numbers_of c.args.moves.now in
    let lt : c.loop-i.i < length c.loop-i.all.items = omega (arith, c.loop-i.invariant.front.length_is) in
    record {
      front = front_more (Becomes (On r) (macro_as r)) c.args.all.now.items c.loop-i.all.items c.loop-i.i c.index_mut.result.now c.macro_def.new.it c.loop-i.invariant.front lt c.index_mut.ensures.value (c.macro_def.ensures.stands, c.macro_def.ensures.value);
      block = c.loop-i.invariant.block;
    }

pub returns-clause-stands : goal.returns-clause-stands
returns-clause-stands c =
    let r = numbers_of c.args.moves.now in
    let end : length c.loop-i.all.items ≤ c.loop-i.i = omega (arith, c.loop-i.invariant.front.length_is) in
    let all : AllMatch (Becomes (On r) (macro_as r)) c.args.all.now.items c.loop-i.all.items = front_all (Becomes (On r) (macro_as r)) c.args.all.now.items c.loop-i.all.items c.loop-i.i c.loop-i.invariant.front end in
    all_on r IsMacro (macro_of r) c.args.all.now.items c.loop-i.all.items (all_related (On r) (macro_as r) c.args.all.now.items c.loop-i.all.items all)

pub returns-clause-value : goal.returns-clause-value
returns-clause-value c =
    let r = numbers_of c.args.moves.now in
    let end : length c.loop-i.all.items ≤ c.loop-i.i = omega (arith, c.loop-i.invariant.front.length_is) in
    let all : AllMatch (Becomes (On r) (macro_as r)) c.args.all.now.items c.loop-i.all.items = front_all (Becomes (On r) (macro_as r)) c.args.all.now.items c.loop-i.all.items c.loop-i.i c.loop-i.invariant.front end in
    each_is (macro_as r) c.args.all.now c.loop-i.all c.loop-i.invariant.block (all_mapped (On r) (macro_as r) c.args.all.now.items c.loop-i.all.items all)
