use Rattle.std.specs.BTreeMap.{is_at, get}
use Rattle.rules_match.specs.Found.{pair_cmp}
use Rattle.unit_scopes.proofs.WithinLaws.{macro_gone_fits}
use Rattle.unit_scopes.proofs.unit_macros.UnitMacros.take.Goals as goal

pub invariant_of-self : goal.invariant_of-self
invariant_of-self c = record {
  within = λ u i k there. let m = c.args.self.now.all in
      macro_gone_fits (get pair_cmp m (u, i)) (get pair_cmp c.remove.new.self (u, i)) (is_at (pair_cmp (c.args.unit, c.args.ident)) (u, i)) c.args.self.now.newest (c.remove.ensures.updates.0 (u, i)) (c.args.self.now.within u i) k there;
}
