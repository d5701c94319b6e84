use Rattle.std.proofs.Common.{◌≡◌, ◌++◌, map, take}
use Rattle.program_leaves.specs.Leaves.{seen_of, cores_seen, clauses_seen, parts_seen}
use Rattle.program_leaves.proofs.leaves.+leaves.Given as goal

abbrev pub invariant-add_clauses-loop-clause : goal.invariant-add_clauses-loop-clause
invariant-add_clauses-loop-clause l = map seen_of l.leaves.items ≡ map seen_of l.fn.leaves.items ++ clauses_seen (take l.clause-index l.clauses)

abbrev pub invariant-add_cores-loop-core : goal.invariant-add_cores-loop-core
invariant-add_cores-loop-core l = map seen_of l.leaves.items ≡ map seen_of l.fn.leaves.items ++ cores_seen (take l.core-index l.cores)

abbrev pub invariant-add_parts-loop-part : goal.invariant-add_parts-loop-part
invariant-add_parts-loop-part l = map seen_of l.leaves.items ≡ map seen_of l.fn.leaves.items ++ parts_seen (take l.part-index l.parts)
