use Rattle.scope_env.proofs.GrowthLaws.{locals_of, means_same}
use Rattle.scope_env.proofs.laws.locals_of_a_form.Goals as goal

pub returns-clause-locals : goal.returns-clause-locals
returns-clause-locals c = locals_of

pub returns-clause-same : goal.returns-clause-same
returns-clause-same c = λ given unit form uses d i none. means_same unit form given uses none d i
