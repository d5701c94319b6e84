use Rattle.std.proofs.Common.{◌≡◌, ◌++◌, map, take}
use Rattle.program_leaves.specs.Leaves.{seen_of, fields_seen}
use Rattle.program_leaves.proofs.leaves.add_used.Given as goal

abbrev pub invariant-loop-field : goal.invariant-loop-field
invariant-loop-field l = map seen_of l.leaves.items ≡ map seen_of l.fn.leaves.items ++ fields_seen l.fields (take l.field-index l.used)
