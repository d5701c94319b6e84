use Rattle.scope_env.proofs.StandingLaws.{root_stays, root_env_bound}
use Rattle.scope_env.proofs.laws.definitions_stand.Goals as goal

pub returns-clause-scopes : goal.returns-clause-scopes
returns-clause-scopes c = λ names old scope unit ident m d n sound at. root_stays names old scope ident m sound unit at d n

pub returns-clause-env : goal.returns-clause-env
returns-clause-env c = λ names old scope unit ident m i d given uses sound apart is meant at. root_env_bound names old scope ident m sound unit at given uses i d apart is meant
