use Rattle.std.proofs.Common.{◌≡◌, ◌≤◌, List, map, length, drop}
use Rattle.scheme_model.specs.ExpansionFaults.{Named}
use Rattle.scheme_model.specs.Ident.{Ident as Identifier}
use Rattle.scheme_model.specs.Order.{Meant}
use Rattle.scheme_model.specs.Requirements.{Known}
use Rattle.scheme_model.specs.ScopedExpansion.{Frames}
use Rattle.core_tree.specs.Names.{AllMatch}
use Rattle.noted_steps.specs.Noting.{Noting, noting}
use Rattle.noted_steps.specs.Standing.{Stands, TargetFor, with_notes}
use Rattle.noted_steps.proofs.noted.note_all.Given as goal

abbrev pub invariant-loop-left : goal.invariant-loop-left
invariant-loop-left l = record {
  within : l.left ≤ length l.targets;
  rest : l.units ≡ with_notes l.initial.units l.units.form.trace.notes;
  noted : (known : Known) (ls : List Frames) (s : Noting) (fs : Frames) (ns : List (Named Identifier)) → Stands l.work l.initial.units ls s → AllMatch (TargetFor l.work s fs) l.targets ns →
      Stands l.work l.units ls ((noting known).ask (map (λ n. Meant fs n.name) (drop l.left ns)) s);
}

abbrev pub decreases-loop-left : goal.decreases-loop-left
decreases-loop-left l = l.left
