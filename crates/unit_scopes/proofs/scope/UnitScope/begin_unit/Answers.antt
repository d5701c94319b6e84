use Rattle.std.proofs.Common.{sym, subst}
use Rattle.std.specs.Prelude.{String}
use Rattle.std.specs.BTreeSet.{BTreeSet}
use Rattle.std.specs.declared.alloc.Global.{Global}
use Rattle.feature_requirements.specs.Judged.{Knows}
use Rattle.unit_scopes.proofs.scope.UnitScope.begin_unit.Goals as goal

pub returns-clause-rests : goal.returns-clause-rests
returns-clause-rests c = λ ls s notes imported h is. c.start_unit.ensures.rests ls s imported (record { env = h.rests.env; macros = h.rests.macros; begun = h.rests.begun }) is

pub returns-clause-knows : goal.returns-clause-knows
returns-clause-knows c = λ known h. subst (λ (l : BTreeSet (String Global)). Knows l known) (sym c.start_unit.ensures.libraries) h

pub returns-clause-fresh : goal.returns-clause-fresh
returns-clause-fresh c = λ ls s notes imported h. c.start_unit.ensures.fresh ls s imported (record { env = h.rests.env; macros = h.rests.macros; begun = h.rests.begun })

pub returns-clause-editions : goal.returns-clause-editions
returns-clause-editions c = λ ls s notes imported editions h is tells. c.start_unit.ensures.editions ls s imported editions (record { env = h.rests.env; macros = h.rests.macros; begun = h.rests.begun }) is tells
