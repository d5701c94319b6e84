use Rattle.std.proofs.Common.{◌≡◌, ◌≤◌, List, map, length, drop}
use Rattle.scheme_model.specs.Ident.{Ident as Identifier}
use Rattle.scheme_model.specs.Order.{Alike}
use Rattle.scheme_model.specs.Requirements.{Known}
use Rattle.scheme_model.specs.ScopedExpansion.{Frames}
use Rattle.core_tree.specs.Names.{AllMatch}
use Rattle.unit_scopes.specs.Outcomes.{At, CanLook}
use Rattle.noted_steps.specs.Noting.{Noting, noting}
use Rattle.noted_steps.specs.Standing.{Stands, ComparedFor, with_notes}
use Rattle.noted_steps.proofs.noted.note_comparisons.Given as goal

abbrev pub invariant-loop-left : goal.invariant-loop-left
invariant-loop-left l = record {
  within : l.left ≤ length l.comparisons;
  rest : l.units ≡ with_notes l.initial.units l.units.form.trace.notes;
  literals : CanLook l.work l.units l.literal_scope;
  look : CanLook l.work l.units l.scope;
  noted : (known : Known) (ls : List Frames) (s : Noting) (gs fs : Frames) (qs : List (Identifier × Identifier)) → Stands l.work l.initial.units ls s → At ls l.literal_scope gs → At ls l.scope fs →
      AllMatch (ComparedFor l.work s gs fs) l.comparisons qs → Stands l.work l.units ls ((noting known).ask (map (λ q. Alike gs q.0 fs q.1) (drop l.left qs)) s);
}

abbrev pub decreases-loop-left : goal.decreases-loop-left
decreases-loop-left l = l.left
