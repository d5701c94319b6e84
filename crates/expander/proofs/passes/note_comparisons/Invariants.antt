use Rattle.std.proofs.Common.{◌≤◌, ◌++◌, List, length, drop}
use Rattle.scheme_model.specs.Order.{Note}
use Rattle.scheme_model.specs.ScopedExpansion.{Frames, FramedIdent}
use Rattle.core_tree.specs.Names.{AllMatch}
use Rattle.unit_scopes.specs.Used.{ComparisonFor}
use Rattle.unit_scopes.specs.Kept.{NotesFor}
use Rattle.expander.proofs.passes.note_comparisons.Given as goal

abbrev pub invariant-loop-left : goal.invariant-loop-left
invariant-loop-left l = record {
  within : l.left ≤ length l.comparisons;
  noted : (ls : List Frames) (qs ns : List (Note FramedIdent)) → AllMatch (ComparisonFor l.work ls l.literal_scope l.scope) l.comparisons qs → NotesFor l.work ls l.initial.asked ns → NotesFor l.work ls l.asked (drop l.left qs ++ ns);
}

abbrev pub decreases-loop-left : goal.decreases-loop-left
decreases-loop-left l = l.left
