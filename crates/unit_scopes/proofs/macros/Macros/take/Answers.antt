use Rattle.unit_scopes.proofs.MacroLaws.{gone_global}
use Rattle.unit_scopes.proofs.macros.Macros.take.Goals as goal

pub returns-clause-gone : goal.returns-clause-gone
returns-clause-gone c = gone_global c.args.self.now c.take.new.self c.args.unit c.args.ident c.take.ensures.gone
