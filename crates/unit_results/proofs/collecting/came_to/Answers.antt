-- It came so, or is broken as a whole.
use Rattle.std.proofs.Common.{Option, subst}
use Rattle.unit_results.specs.UnitsFound.{IsTold}
use Rattle.unit_imports.specs.declared.expanded.Expanded.{Expanded}
use Rattle.unit_results.proofs.collecting.came_to.Goals as goal

pub returns-in-Some-clause-told : goal.returns-in-Some-clause-told
returns-in-Some-clause-told c = λ rs p h r places at head told. subst (λ (o : Option Expanded). IsTold rs p h o r) c.in-Some.is told

pub returns-in_ok-broken_at-in-None-clause-told : goal.returns-in_ok-broken_at-in-None-clause-told
returns-in_ok-broken_at-in-None-clause-told c = λ rs p h r places at head told.
    let broken = subst (λ (o : Option Expanded). IsTold rs p h o r) c.in-None.is told in
    c.in_ok-broken_at-in-None.ensures.told rs p h r broken.0 places at head broken.1 broken.2
