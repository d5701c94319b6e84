use Rattle.std.proofs.Common.{◌≡◌, List, take}
use Rattle.scheme_model.specs.Ident.{Ident as Identifier}
use Rattle.scheme_model.specs.Requirements.{Known}
use Rattle.scheme_model.specs.Order.{WaitingUse, meet_all}
use Rattle.scheme_model.specs.ScopedExpansion.{Frames, ScopedState}
use Rattle.core_tree.specs.Names.{AllMatch}
use Rattle.unit_scopes.specs.Searched.{searched}
use Rattle.unit_scopes.specs.State.{Stands}
use Rattle.unit_scopes.specs.Stepped.{with_uses}
use Rattle.unit_scopes.specs.Kept.{WaitsFor}
use Rattle.unit_scopes.specs.Outcomes.{At}
use Rattle.unit_scopes.proofs.scope.UnitScope.meet_all.Given as goal

abbrev pub invariant-loop-used : goal.invariant-loop-used
invariant-loop-used l = record {
  met : (known : Known) (ls : List Frames) (s : ScopedState) (fs : Frames) (us : List (WaitingUse Identifier)) → Stands l.work l.fn.self ls s → At ls l.scope fs → AllMatch (WaitsFor l.work l.fn.self.unit l.fn.self.form.number) l.uses us →
      Stands l.work l.self ls (meet_all (searched known) fs (take l.used-index us) s);
  rest : l.self ≡ with_uses l.fn.self l.self.form.trace.uses;
}
