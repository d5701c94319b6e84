use Rattle.std.proofs.Common.{[], ◌∷◌, false, OnOk, subst}
use Rattle.scheme_model.specs.Program.{prelude_unit}
use Rattle.scheme_model.specs.Substitution.{Entries}
use Rattle.unit_scopes.specs.Editions.{EditionsTell}
use Rattle.unit_scopes.specs.Opened.{nothing_yet, started}
use Rattle.unit_scopes.specs.Preluded.{standard_names}
use Rattle.unit_scopes.specs.Units.{UnitStands}
use Rattle.unit_scopes.proofs.PreludeLaws.{entry_is}
use Rattle.unit_scopes.proofs.scope.UnitScope.begin_prelude.Goals as goal

pub returns-clause-rests : goal.returns-clause-rests
returns-clause-rests c = λ h is.
    subst (λ (e : Entries). OnOk c.start_unit.result (UnitStands c.start_unit.new.work c.start_unit.new.self ([] ∷ []) (started prelude_unit false e nothing_yet) [])) entry_is (c.start_unit.ensures.rests [] nothing_yet standard_names h is)

pub returns-clause-editions : goal.returns-clause-editions
returns-clause-editions c = λ editions h is tells.
    subst (λ (e : Entries). OnOk c.start_unit.result (EditionsTell c.start_unit.new.work.symbols c.start_unit.new.self.macros (started prelude_unit false e nothing_yet) editions)) entry_is (c.start_unit.ensures.editions [] nothing_yet standard_names editions h is tells)
