use Rattle.std.proofs.Common.{◌+◌, ◌*◌, List}
use Rattle.scheme_model.specs.Trees.{Trees}
use Rattle.scheme_model.specs.ScopedExpansion.{Frames, ScopedState}
use Rattle.scheme_model.specs.Ident.{Ident as Identifier}
use Rattle.syntax_tree.specs.Looks.{PartsStand}
use Rattle.form_parts.specs.Marked.{mark_here}
use Rattle.unit_scopes.specs.State.{Stands}
use Rattle.unit_scopes.specs.Outcomes.{At}
use Rattle.form_parts.proofs.QuasiMarks.{AddsUpTo}
use Rattle.unit_scopes.proofs.scope.UnitScope.+marks.Given as goal

abbrev pub decreases-add_marks : goal.decreases-add_marks
decreases-add_marks l = 2 * l.left

abbrev pub decreases-add_all_marks : goal.decreases-add_all_marks
decreases-add_all_marks l = 2 * l.left + 1

abbrev pub invariant-add_all_marks-loop-item : goal.invariant-add_all_marks-loop-item
invariant-add_all_marks-loop-item l =
    (ls : List Frames) (s : ScopedState) (fs : Frames) (ts : Trees Identifier) → Stands l.work l.self ls s → At ls l.fn.scope fs → PartsStand l.work l.items ts →
    AddsUpTo l.work.symbols (mark_here s fs) l.initial.marks l.marks ts l.item-index
