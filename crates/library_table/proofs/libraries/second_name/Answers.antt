use Rattle.std.proofs.Common.{◌≡◌, IfOk, List, ℕ, Option, subst}
use Rattle.unit_sources.proofs.NameRows.{none_behind, one_alone, second_there}
use Rattle.library_table.proofs.libraries.second_name.Goals as goal

pub returns-in-Empty : goal.returns-in-Empty
returns-in-Empty c = λ p end. none_behind p c.args.parts.now end c.in-Empty.ensures

pub returns-in-Empty-row_of : goal.returns-in-Empty-row_of
returns-in-Empty-row_of c = λ p end. one_alone p c.args.parts.now c.in-Parts.behind.now c.in-Parts.field-0.now end c.in-Parts.ensures c.in-Empty-row_of.ensures

pub returns-in-Parts-row_of : goal.returns-in-Parts-row_of
returns-in-Parts-row_of c = λ p end.
    subst (λ (t : Option (List ℕ)). IfOk c.text_of.result (λ name. name ≡ t)) (second_there p c.args.parts.now c.in-Parts.behind.now c.in-Parts-row_of.field-1.now c.in-Parts.field-0.now c.in-Parts-row_of.name.now end c.in-Parts.ensures c.in-Parts-row_of.ensures) c.text_of.ensures
