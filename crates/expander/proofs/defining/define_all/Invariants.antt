use Rattle.std.proofs.Common.{List}
use Rattle.scheme_model.specs.Ident.{Ident as Identifier}
use Rattle.scheme_model.specs.ExpansionFaults.{Named}
use Rattle.scheme_model.specs.Requirements.{Known}
use Rattle.scheme_model.specs.Order.{Pending}
use Rattle.scheme_model.specs.ScopedExpansion.{Frames, FramedIdent}
use Rattle.core_forms.specs.Parts.{AllMatch, IsName}
use Rattle.unit_scopes.specs.Kept.{NotesFor}
use Rattle.unit_scopes.specs.Defining.{Takes}
use Rattle.expander.proofs.DefinitionSteps.{DefinedSoFar}
use Rattle.expander.proofs.defining.define_all.Given as goal
use Rattle.noted_steps.specs.Noting.{Noting}
use Rattle.noted_steps.specs.Standing.{Stands}
use Rattle.noted_steps.specs.Kept.{SpotFor}

abbrev pub invariant-loop-name : goal.invariant-loop-name
invariant-loop-name l = record {
  so_far : (known : Known) (ls : List Frames) (s : Noting) (fs : Frames) (ns : List (Named Identifier)) (p : Pending Identifier FramedIdent) →
      Stands l.work l.fn.units ls s → SpotFor l.work l.fn.units ls s l.spot fs → AllMatch (IsName l.work) l.names ns → NotesFor l.work ls l.asked p.notes →
      DefinedSoFar l.work known l.here l.fn.units ls l.spot fs s ns p l.units l.name-index l.binders.items;
  takes : Takes l.name-index l.fn.units l.units;
}
