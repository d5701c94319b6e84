use Rattle.unit_scopes.proofs.MacroLaws.{kept_local, kept_global}
use Rattle.unit_scopes.proofs.macros.Macros.keep_as.Goals as goal

pub returns-in_ok-insert-in-Local-clause-kept : goal.returns-in_ok-insert-in-Local-clause-kept
returns-in_ok-insert-in-Local-clause-kept c =
    kept_local c.args.self.now c.args.form c.args.kept c.args.self.now.editions c.args.meaning c.insert.new.self c.in-Local.number c.in-Local.is c.in_ok-insert-in-Local.ensures.updates.0

pub returns-in_ok-insert-in-Global-clause-kept : goal.returns-in_ok-insert-in-Global-clause-kept
returns-in_ok-insert-in-Global-clause-kept c =
    kept_global c.args.self.now c.args.form c.args.kept c.args.self.now.editions c.args.meaning c.insert-in-Global.new.self c.in-Global.unit c.in-Global.ident c.in-Global.is c.in_ok-insert-in-Global.ensures.put
