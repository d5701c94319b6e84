use Rattle.scope_env.proofs.StandingLaws.{root_stands, root_beside, root_env}
use Rattle.scope_env.proofs.laws.roots_stand.Goals as goal

pub returns-clause-root : goal.returns-clause-root
returns-clause-root c = λ names old unit sound new. root_stands names old unit sound new

pub returns-clause-scopes : goal.returns-clause-scopes
returns-clause-scopes c = λ names old unit d n sound new. root_beside names old unit sound new d n

pub returns-clause-env : goal.returns-clause-env
returns-clause-env c = λ names old unit given uses sound new. root_env names old unit sound new given uses
