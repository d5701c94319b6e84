use Rattle.std.proofs.Common.{ℕ, List, take}
use Rattle.std.specs.Prelude.{Option}
use Rattle.std.specs.List.{flat_map}
use Rattle.rename_model.specs.Walks.{TreeNode, data_point}
use Rattle.core_tree.specs.Names.{AllMatch}
use Rattle.program_leaves.specs.Adds.{Adds}
use Rattle.alpha_equal.specs.Data.{IsDatumNode}
use Rattle.alpha_equal.specs.Points.{IsPoint}
use Rattle.program_differences.proofs.forms.add_data.Given as goal

abbrev pub invariant-loop-node : goal.invariant-loop-node
invariant-loop-node l =
    (unit form : ℕ) (ts : List (TreeNode (Option (List ℕ)))) → AllMatch (IsDatumNode l.work.symbols) l.nodes ts →
    Adds (IsPoint l.work.symbols unit form) l.fn.points.items l.points.items (flat_map data_point (take l.node-index ts))
