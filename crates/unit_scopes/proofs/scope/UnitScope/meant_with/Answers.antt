use Rattle.scope_env.specs.Environment.{with_bound}
use Rattle.unit_scopes.proofs.ComingDefinitions.{meant_here}
use Rattle.unit_scopes.proofs.scope.UnitScope.meant_with.Goals as goal

pub returns : goal.returns
returns c = λ ls t m p comes placed.
    let b = c.args.coming.bound in
    meant_here c.args.work.now.symbols (with_bound c.args.self.now.env b.scope b.ident b.meaning) ls t c.args.at.scope p.frames p.ident c.resolve_with.result comes.env placed.0
    (λ given uses chain unit form env stands. c.resolve_with.ensures.meaning given uses chain unit form p.ident placed.1 env stands)
