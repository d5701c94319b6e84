use Rattle.scope_env.proofs.Forgotten.{sound_forgotten, scope_forgotten, env_forgotten}
use Rattle.scope_env.proofs.laws.locals_are_forgotten.Goals as goal

pub returns : goal.returns
returns c = record {
  sound = λ old from sound roots. sound_forgotten old from sound roots;
  scopes = λ names old from d n sound roots lt within h. scope_forgotten old from sound roots names d n lt within h;
  env = λ names old from given uses sound roots h. env_forgotten old from sound roots names given uses h;
}
