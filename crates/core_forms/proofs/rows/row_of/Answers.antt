use Rattle.core_forms.proofs.Lists.{row_empty, row_parts, nothing_in}
use Rattle.core_forms.proofs.rows.row_of.Goals as goal

pub returns-in-None-clause-read : goal.returns-in-None-clause-read
returns-in-None-clause-read c = λ ts stands. row_empty c.args.work.now c.args.items.now ts (nothing_in c.args.items.now c.in-None.ensures.cases) stands

pub returns-in-Some-clause-read : goal.returns-in-Some-clause-read
returns-in-Some-clause-read c = λ ts stands. row_parts c.args.work.now c.args.items.now _ _ ts c.in-Some.ensures.cases.0 stands
