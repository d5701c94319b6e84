use Rattle.std.proofs.Common.{ap, ◌∙◌}
use Rattle.std.specs.FinMap as map
use Rattle.std.specs.FinMap.{get-empty}
use Rattle.std.specs.Ordering.{nat_cmp}
use Rattle.scope_env.specs.Environment.{Environment}
use Rattle.unit_scopes.proofs.EditionStands.{editions_none}
use Rattle.unit_scopes.proofs.PreludeLaws.{nothing_stands}
use Rattle.unit_scopes.proofs.scope.UnitScope.new.Goals as goal

pub returns-clause-units : goal.returns-clause-units
returns-clause-units c = λ work. nothing_stands work _ c.new.ensures c.new-2.ensures.none

pub returns-clause-all_new : goal.returns-clause-all_new
returns-clause-all_new c = λ unit. ap (λ (e : Environment). map.get e.roots unit) c.new.ensures ∙ get-empty nat_cmp unit

pub returns-clause-editions : goal.returns-clause-editions
returns-clause-editions c = λ names editions zero. editions_none names c.new-2.result editions c.new-2.ensures.none zero
