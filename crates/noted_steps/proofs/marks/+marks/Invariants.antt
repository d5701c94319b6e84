use Rattle.std.proofs.Common.{◌≡◌, ◌+◌, ◌*◌, List}
use Rattle.scheme_model.specs.Ident.{Ident as Identifier}
use Rattle.scheme_model.specs.Matching.{behind}
use Rattle.scheme_model.specs.Quasiquote.{element_marks, pair_marks, tail_marks}
use Rattle.scheme_model.specs.Requirements.{Known}
use Rattle.scheme_model.specs.ScopedExpansion.{Frames}
use Rattle.scheme_model.specs.Trees.{Trees, Tail}
use Rattle.syntax_tree.specs.Looks.{PartsStand, EndStands}
use Rattle.core_forms.proofs.Finding.{Counted}
use Rattle.unit_scopes.specs.Outcomes.{At, CanLook}
use Rattle.noted_steps.specs.Asked.{mark_here}
use Rattle.noted_steps.specs.Noting.{Noting}
use Rattle.noted_steps.specs.Standing.{Stands, with_notes}
use Rattle.noted_steps.proofs.MarkLaws.{HeadsSoFar}
use Rattle.noted_steps.proofs.marks.+marks.Given as goal

abbrev pub decreases-note_datum : goal.decreases-note_datum
decreases-note_datum l = 3 * l.left

abbrev pub decreases-note_row : goal.decreases-note_row
decreases-note_row l = 3 * l.left + 2

abbrev pub decreases-note_parts : goal.decreases-note_parts
decreases-note_parts l = 3 * l.left + 1

abbrev pub invariant-note_parts-loop-k : goal.invariant-note_parts-loop-k
invariant-note_parts-loop-k l =
    (l.units ≡ with_notes l.initial.units l.units.form.trace.notes)
    × CanLook l.work l.units l.fn.scope
    × ((known : Known) (ls : List Frames) (s : Noting) (fs : Frames) (ts : Trees Identifier) → Stands l.work l.initial.units ls s → At ls l.fn.scope fs → PartsStand l.work l.items ts →
    HeadsSoFar known l.work ls fs s l.units (element_marks (mark_here known s fs) l.level ts) (element_marks (mark_here known s fs) l.level (behind l.k ts)))

abbrev pub invariant-note_row-loop-k : goal.invariant-note_row-loop-k
invariant-note_row-loop-k l =
    (l.units ≡ with_notes l.initial.units l.units.form.trace.notes)
    × CanLook l.work l.units l.fn.scope
    × Counted l.work l.items l.end l.level l.inner l.k
    × ((known : Known) (ls : List Frames) (s : Noting) (fs : Frames) (ts : Trees Identifier) (tail : Tail Identifier) → Stands l.work l.initial.units ls s → At ls l.fn.scope fs → PartsStand l.work l.items ts → EndStands l.work l.end tail →
    HeadsSoFar known l.work ls fs s l.units (pair_marks (mark_here known s fs) l.level ts (tail_marks (mark_here known s fs) tail)) (pair_marks (mark_here known s fs) l.inner (behind l.k ts) (tail_marks (mark_here known s fs) tail)))
