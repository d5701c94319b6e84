use Rattle.std.proofs.Common.{◌≡◌, ◌≤◌, List, length, drop}
use Rattle.scheme_model.specs.ExpansionFaults.{Named}
use Rattle.scheme_model.specs.Expression.{local_defs, locals_asked}
use Rattle.scheme_model.specs.Ident.{Ident as Identifier}
use Rattle.scheme_model.specs.Identifiers.{Number}
use Rattle.scheme_model.specs.Requirements.{Known}
use Rattle.scheme_model.specs.ScopedExpansion.{Frames}
use Rattle.core_tree.specs.Names.{AllMatch, IsMacro}
use Rattle.noted_steps.specs.Noting.{Noting, noting}
use Rattle.noted_steps.specs.Standing.{Stands, with_notes}
use Rattle.noted_steps.proofs.rules.note_locals.Given as goal

abbrev pub invariant-loop-left : goal.invariant-loop-left
invariant-loop-left l = record {
  within : l.left ≤ length l.defs;
  rest : l.units ≡ with_notes l.initial.units l.units.form.trace.notes;
  noted : (known : Known) (ls : List Frames) (s : Noting) (vs : List Number) (ns : List (Named Identifier)) → Stands l.work l.initial.units ls s → AllMatch (IsMacro l.work s.unit s.form) l.defs (local_defs (noting known) s vs ns) →
      Stands l.work l.units ls ((noting known).ask (locals_asked (noting known) s (drop l.left vs) (drop l.left ns)) s);
}

abbrev pub decreases-loop-left : goal.decreases-loop-left
decreases-loop-left l = l.left
