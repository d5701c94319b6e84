use Rattle.std.proofs.Common.{◌<◌, ◌≤◌, length, arith}
use Rattle.core_tree.specs.Names.{AllMatch}
use Rattle.core_tree.specs.declared.units.ExpandedItem.{ExpandedItem}
use Rattle.renumbering_laws.specs.Renumbering.{Renumbering}
use Rattle.moved_numbers.specs.Values.{item_as}
use Rattle.moved_numbers.proofs.CoreLaws.{PartOn}
use Rattle.moved_numbers.proofs.FormLaws.{items_on}
use Rattle.moves.specs.Numbers.{numbers_of}
use Rattle.moved_numbers.proofs.Fronts.{Becomes, front_more, front_all, all_related, all_mapped}
use Rattle.moved_numbers.proofs.forms.all_parts.Goals as goal

abbrev On : Renumbering → ExpandedItem → ExpandedItem → Type 0
On r x y = PartOn r x.part y.part

pub loop-i-preserved : goal.loop-i-preserved
loop-i-preserved c =
    let r = numbers_of c.args.moves.now in
    let lt : c.loop-i.i < length c.loop-i.all.items = omega (arith, c.loop-i.invariant.length_is) in
    front_more (Becomes (On r) (item_as r)) c.args.all.now.items c.loop-i.all.items c.loop-i.i c.index_mut.result.now (record { part = c.part.new.it; count = c.index_mut.result.now.count }) c.loop-i.invariant lt c.index_mut.ensures.value
    (c.part.ensures.stands, λ i. record { part = c.part.ensures.value i; count = c.index_mut.result.now.count })

pub returns-clause-length : goal.returns-clause-length
returns-clause-length c = c.loop-i.invariant.length_is

pub returns-clause-stands : goal.returns-clause-stands
returns-clause-stands c =
    let r = numbers_of c.args.moves.now in
    let end : length c.loop-i.all.items ≤ c.loop-i.i = omega (arith, c.loop-i.invariant.length_is) in
    let all : AllMatch (Becomes (On r) (item_as r)) c.args.all.now.items c.loop-i.all.items = front_all (Becomes (On r) (item_as r)) c.args.all.now.items c.loop-i.all.items c.loop-i.i c.loop-i.invariant end in
    items_on r c.args.all.now.items c.loop-i.all.items (all_related (On r) (item_as r) c.args.all.now.items c.loop-i.all.items all)

pub returns-clause-value : goal.returns-clause-value
returns-clause-value c =
    let r = numbers_of c.args.moves.now in
    let end : length c.loop-i.all.items ≤ c.loop-i.i = omega (arith, c.loop-i.invariant.length_is) in
    let all : AllMatch (Becomes (On r) (item_as r)) c.args.all.now.items c.loop-i.all.items = front_all (Becomes (On r) (item_as r)) c.args.all.now.items c.loop-i.all.items c.loop-i.i c.loop-i.invariant end in
    all_mapped (On r) (item_as r) c.args.all.now.items c.loop-i.all.items all
