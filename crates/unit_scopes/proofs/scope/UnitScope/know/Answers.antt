use Rattle.unit_scopes.proofs.CallLaws.{with_libraries}
use Rattle.unit_scopes.proofs.scope.UnitScope.know.Goals as goal

pub returns-clause-rests : goal.returns-clause-rests
returns-clause-rests c = λ work ls s notes h. with_libraries work c.args.self.now c.args.libraries.names ls s notes h
