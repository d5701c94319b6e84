use Rattle.session_core.proofs.Renaming.{counts_so, renames_so}
use Rattle.session_core.proofs.session.Session.on_rename.Goals as goal

pub returns-clause-step : goal.returns-clause-step
returns-clause-step g c =
    renames_so c.self.inside.mode c.self.inside.workspace.encoding c.self.inside.workspace.texts c.on_rename.new.workspace c.args.self.now c.args.id c.args.at.now c.args.new_name.now c.in_ok-on_rename.field-0 c.in_ok-on_rename.ensures.texts
    c.in_ok-on_rename.ensures.encoding c.self.view_is c.in_ok-on_rename.ensures.answer

pub returns-clause-counted : goal.returns-clause-counted
returns-clause-counted g c =
    counts_so c.self.inside.mode c.self.inside.workspace.encoding c.self.inside.workspace.texts c.args.self.now c.args.id c.args.at.now c.args.new_name.now c.args.steps.now c.on_rename.new.steps c.self.view_is c.in_ok-on_rename.ensures.steps
