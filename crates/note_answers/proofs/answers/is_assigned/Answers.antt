use Rattle.std.proofs.Common.{true, ap}
use Rattle.unit_scopes.specs.State.{is_program}
use Rattle.note_answers.proofs.RootLaws.{assigned_is}
use Rattle.note_answers.proofs.answers.is_assigned.Goals as goal

pub returns-in-Program : goal.returns-in-Program
returns-in-Program c = λ work v r i can is.
    assigned_is work c.args.units.now can.layout v.state c.args.ident i true c.is_variable.result can.rests is (ap is_program c.in-Program.is) c.is_variable.ensures
