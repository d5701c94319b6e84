use Rattle.std.proofs.Common.{List, take}
use Rattle.scheme_model.specs.Ident.{Ident as Identifier}
use Rattle.scheme_model.specs.Requirements.{Known}
use Rattle.scheme_model.specs.Order.{WaitingUse, meet_all}
use Rattle.scheme_model.specs.ScopedExpansion.{Frames}
use Rattle.core_tree.specs.Names.{AllMatch}
use Rattle.unit_scopes.specs.Kept.{WaitsFor}
use Rattle.unit_scopes.specs.Outcomes.{At}
use Rattle.noted_steps.specs.Noting.{Noting, noting}
use Rattle.noted_steps.specs.Standing.{Stands}
use Rattle.noted_steps.proofs.UsesMet.{MeetsAlone}
use Rattle.noted_steps.proofs.uses.meet_all.Given as goal

abbrev pub invariant-loop-used : goal.invariant-loop-used
invariant-loop-used l = record {
  met : (known : Known) (ls : List Frames) (s : Noting) (fs : Frames) (us : List (WaitingUse Identifier)) → Stands l.work l.initial.units ls s → At ls l.scope fs → AllMatch (WaitsFor l.work l.initial.units.unit l.initial.units.form.number) l.uses us →
      Stands l.work l.units ls (meet_all (noting known) fs (take l.used-index us) s);
  rest : MeetsAlone l.initial.units l.units;
}
