use Rattle.scope_env.proofs.AroundLaws.{older_apart, child_around, root_around, bound_around, child_inside, child_parent}
use Rattle.scope_env.proofs.laws.scopes_around.Goals as goal

pub returns-clause-inside : goal.returns-clause-inside
returns-clause-inside c = child_parent

pub returns-clause-child : goal.returns-clause-child
returns-clause-child c = child_inside

pub returns-clause-older : goal.returns-clause-older
returns-clause-older c = λ old scope n sound lt within. older_apart old scope sound n lt within

pub returns-clause-after_child : goal.returns-clause-after_child
returns-clause-after_child c = child_around

pub returns-clause-after_root : goal.returns-clause-after_root
returns-clause-after_root c = root_around

pub returns-clause-after_bind : goal.returns-clause-after_bind
returns-clause-after_bind c = λ old at ident scope n m. bound_around old at ident m scope n
