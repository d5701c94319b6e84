use Rattle.std.proofs.Common.{◌≡◌, ◌++◌, map, take}
use Rattle.alpha_equal.specs.Marks.{mark_of, cores_marks, clauses_marks, parts_marks}
use Rattle.alpha_equal.proofs.marks.+marks.Given as goal

abbrev pub invariant-add_clauses-loop-clause : goal.invariant-add_clauses-loop-clause
invariant-add_clauses-loop-clause l = map mark_of l.marks.items ≡ map mark_of l.fn.marks.items ++ clauses_marks (take l.clause-index l.clauses)

abbrev pub invariant-add_cores-loop-core : goal.invariant-add_cores-loop-core
invariant-add_cores-loop-core l = map mark_of l.marks.items ≡ map mark_of l.fn.marks.items ++ cores_marks (take l.core-index l.cores)

abbrev pub invariant-add_parts-loop-part : goal.invariant-add_parts-loop-part
invariant-add_parts-loop-part l = map mark_of l.marks.items ≡ map mark_of l.fn.marks.items ++ parts_marks (take l.part-index l.parts)
