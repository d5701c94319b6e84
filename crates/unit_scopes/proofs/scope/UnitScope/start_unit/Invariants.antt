use Rattle.unit_scopes.specs.State.{is_program}
use Rattle.unit_scopes.proofs.ImportLaws.{Importing}
use Rattle.unit_scopes.proofs.scope.UnitScope.start_unit.Given as goal

abbrev pub invariant-loop-imported : goal.invariant-loop-imported
invariant-loop-imported l = Importing l.fn.work l.work l.fn.self l.self l.fn.unit (is_program l.fn.kind) l.imports l.imported-index
