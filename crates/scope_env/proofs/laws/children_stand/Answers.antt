use Rattle.scope_env.proofs.StandingLaws.{child_stands, child_beside, child_env}
use Rattle.scope_env.proofs.laws.children_stand.Goals as goal

pub returns-clause-child : goal.returns-clause-child
returns-clause-child c = λ names old parent d sound within. child_stands names old parent sound within d

pub returns-clause-scopes : goal.returns-clause-scopes
returns-clause-scopes c = λ names old parent d n sound within. child_beside names old parent sound within d n

pub returns-clause-env : goal.returns-clause-env
returns-clause-env c = λ names old parent given uses sound within. child_env names old parent sound within given uses
