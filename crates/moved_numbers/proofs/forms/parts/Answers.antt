use Rattle.std.proofs.Common.{List, map, length, ap, ◌∙◌}
use Rattle.core_tree.specs.declared.units.ExpandedItem.{ExpandedItem}
use Rattle.renumbering_laws.specs.Renumbering.{parts_as}
use Rattle.moves.specs.Numbers.{numbers_of}
use Rattle.moved_numbers.specs.Standing.{ItemsStand}
use Rattle.moved_numbers.specs.Values.{item_as}
use Rattle.moved_numbers.proofs.Fronts.{on_as}
use Rattle.moved_numbers.proofs.forms.parts.Goals as goal

pub returns-clause-length : goal.returns-clause-length
returns-clause-length c = ap (λ (l : List ExpandedItem). length l) c.from_vec.ensures ∙ c.all_parts.ensures.length ∙ ap (λ (l : List ExpandedItem). length l) c.take-all.ensures

pub returns-clause-stands : goal.returns-clause-stands
returns-clause-stands c =
    on_as (numbers_of c.args.moves.now) ItemsStand (parts_as (numbers_of c.args.moves.now)) c.take-all.result.items c.args.items.now c.all_parts.new.all.items c.from_vec.result c.take-all.ensures c.from_vec.ensures c.all_parts.ensures.stands

pub returns-clause-value : goal.returns-clause-value
returns-clause-value c = c.from_vec.ensures ∙ c.all_parts.ensures.value ∙ ap (map (item_as (numbers_of c.args.moves.now))) c.take-all.ensures
