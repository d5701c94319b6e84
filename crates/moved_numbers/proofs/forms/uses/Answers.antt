use Rattle.std.proofs.Common.{List, map, length, ap, ◌∙◌}
use Rattle.core_tree.specs.Names.{AllMatch}
use Rattle.core_tree.specs.declared.traces.MacroUse.{MacroUse}
use Rattle.renumbering_laws.specs.Renumbering.{macro_use_as}
use Rattle.moves.specs.Numbers.{numbers_of}
use Rattle.moved_numbers.specs.Standing.{UseStands}
use Rattle.moved_numbers.specs.Values.{use_as}
use Rattle.moved_numbers.proofs.Fronts.{on_as}
use Rattle.moved_numbers.proofs.forms.uses.Goals as goal

pub returns-clause-length : goal.returns-clause-length
returns-clause-length c = ap (λ (l : List MacroUse). length l) c.from_vec.ensures ∙ c.all_uses.ensures.length ∙ ap (λ (l : List MacroUse). length l) c.take-all.ensures

pub returns-clause-stands : goal.returns-clause-stands
returns-clause-stands c =
    on_as (numbers_of c.args.moves.now) (λ work unit form. AllMatch (UseStands work unit form)) (map (macro_use_as (numbers_of c.args.moves.now))) c.take-all.result.items c.args.items.now c.all_uses.new.all.items c.from_vec.result c.take-all.ensures c.from_vec.ensures c.all_uses.ensures.stands

pub returns-clause-value : goal.returns-clause-value
returns-clause-value c = c.from_vec.ensures ∙ c.all_uses.ensures.value ∙ ap (map (use_as (numbers_of c.args.moves.now))) c.take-all.ensures
