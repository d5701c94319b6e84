use Rattle.scope_env.proofs.GrowthLaws.{chain_grows, env_grows}
use Rattle.scope_env.proofs.laws.growth_stands.Goals as goal

pub returns-clause-scopes : goal.returns-clause-scopes
returns-clause-scopes c = λ before after e scope d keeps apart. chain_grows before after keeps apart e scope d

pub returns-clause-env : goal.returns-clause-env
returns-clause-env c = λ before after e given uses keeps apart. env_grows before after keeps apart e given uses
