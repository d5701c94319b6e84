use Rattle.std.proofs.Common.{◌≡◌, ◌+◌, take, length}
use Rattle.scope_env.specs.Environment.{with_child}
use Rattle.unit_scopes.specs.Binds.{local_binders, with_locals, with_names}
use Rattle.unit_scopes.proofs.scope.UnitScope.bind_names.Given as goal

abbrev pub invariant-loop-name : goal.invariant-loop-name
invariant-loop-name l = record {
  taken : l.self ≡ record (with_locals l.fn.self (l.fn.self.form.budget.locals + l.name-index)) { env = with_names (with_child l.fn.self.env l.fn.scope) (length l.fn.self.env.scopes) l.fn.self.form.budget.locals (take l.name-index l.names) };
  bound : l.binders.items ≡ local_binders l.fn.self.form.budget.locals (take l.name-index l.names);
}
