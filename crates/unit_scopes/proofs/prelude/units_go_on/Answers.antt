use Rattle.unit_scopes.proofs.PreludeLaws.{prelude_continues, prelude_is, not_named, started_so}
use Rattle.unit_scopes.proofs.prelude.units_go_on.Goals as goal

pub returns-clause-prelude : goal.returns-clause-prelude
returns-clause-prelude c = prelude_continues

pub returns-clause-macros : goal.returns-clause-macros
returns-clause-macros c = prelude_is

pub returns-clause-names : goal.returns-clause-names
returns-clause-names c = not_named

pub returns-clause-start : goal.returns-clause-start
returns-clause-start c = started_so
