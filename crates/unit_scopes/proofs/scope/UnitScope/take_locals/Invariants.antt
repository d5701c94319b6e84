use Rattle.std.proofs.Common.{◌≡◌, ◌+◌, take}
use Rattle.unit_scopes.specs.Binds.{local_binders, with_locals}
use Rattle.unit_scopes.proofs.scope.UnitScope.take_locals.Given as goal

abbrev pub invariant-loop-name : goal.invariant-loop-name
invariant-loop-name l = record {
  taken : l.self ≡ with_locals l.fn.self (l.fn.self.form.budget.locals + l.name-index);
  bound : l.binders.items ≡ local_binders l.fn.self.form.budget.locals (take l.name-index l.names);
}
