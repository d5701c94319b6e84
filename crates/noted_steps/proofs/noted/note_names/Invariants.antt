use Rattle.std.proofs.Common.{◌≡◌, ◌≤◌, List, map, length, drop}
use Rattle.scheme_model.specs.ExpansionFaults.{Named}
use Rattle.scheme_model.specs.Ident.{Ident as Identifier}
use Rattle.scheme_model.specs.Order.{Meant}
use Rattle.scheme_model.specs.Requirements.{Known}
use Rattle.scheme_model.specs.ScopedExpansion.{Frames}
use Rattle.core_forms.specs.Parts.{IsName}
use Rattle.core_tree.specs.Names.{AllMatch}
use Rattle.unit_scopes.specs.Outcomes.{At, CanLook}
use Rattle.noted_steps.specs.Noting.{Noting, noting}
use Rattle.noted_steps.specs.Standing.{Stands, with_notes}
use Rattle.noted_steps.proofs.noted.note_names.Given as goal

abbrev pub invariant-loop-left : goal.invariant-loop-left
invariant-loop-left l = record {
  within : l.left ≤ length l.names;
  rest : l.units ≡ with_notes l.initial.units l.units.form.trace.notes;
  look : CanLook l.work l.units l.scope;
  noted : (known : Known) (ls : List Frames) (s : Noting) (fs : Frames) (ns : List (Named Identifier)) → Stands l.work l.initial.units ls s → At ls l.scope fs → AllMatch (IsName l.work) l.names ns →
      Stands l.work l.units ls ((noting known).ask (map (λ n. Meant fs n.name) (drop l.left ns)) s);
}

abbrev pub decreases-loop-left : goal.decreases-loop-left
decreases-loop-left l = l.left
