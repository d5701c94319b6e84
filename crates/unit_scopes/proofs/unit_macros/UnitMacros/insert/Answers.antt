use Rattle.std.proofs.Common.{arith}
use Rattle.unit_scopes.proofs.WithinLaws.{macro_put_fits}
use Rattle.unit_scopes.proofs.unit_macros.UnitMacros.insert.Goals as goal

pub invariant_of-self : goal.invariant_of-self
invariant_of-self c = record {
  within = macro_put_fits c.insert.result c.args.self.now.all c.insert.new.self (c.args.unit, c.args.ident) c.args.kept c.args.self.now.newest c.max-self.result c.insert.ensures.updates c.insert.ensures.err
      (omega (arith, c.max-self.ensures)) (omega (arith, c.max-self.ensures)) c.args.self.now.within;
}
