use Rattle.scope_env.proofs.StandingLaws.{use_env, means_on}
use Rattle.scope_env.proofs.laws.uses_stand.Goals as goal

pub returns-clause-env : goal.returns-clause-env
returns-clause-env c = λ names old k scope d given uses. use_env names old k scope d given uses

pub returns-clause-others : goal.returns-clause-others
returns-clause-others c = λ given uses k d e i. means_on given uses k d e i
