use Rattle.scope_env.proofs.StandingLaws.{bound_stands, apart_stands, local_bound_env, binder_env}
use Rattle.scope_env.proofs.laws.binders_stand.Goals as goal

pub returns-clause-scope : goal.returns-clause-scope
returns-clause-scope c = λ names old scope parent ident i v d. bound_stands names old scope ident parent i v d

pub returns-clause-others : goal.returns-clause-others
returns-clause-others c = λ names old scope ident m d n sound. apart_stands names old scope ident m sound d n

pub returns-clause-env : goal.returns-clause-env
returns-clause-env c = λ names old scope parent ident m given uses. local_bound_env names old scope ident parent m given uses

pub returns-clause-uses : goal.returns-clause-uses
returns-clause-uses c = λ names old scope parent ident i v given uses sound apart at inside beside. binder_env names old scope ident parent i v sound apart at inside given uses beside
