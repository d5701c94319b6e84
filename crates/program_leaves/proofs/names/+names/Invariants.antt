use Rattle.std.proofs.Common.{◌+◌, ◌*◌}
use Rattle.scheme_model.specs.Trees.{Trees}
use Rattle.scheme_model.specs.Ident.{Ident as Identifier}
use Rattle.syntax_tree.specs.Looks.{PartsStand}
use Rattle.syntax_tree.specs.Placed.{IsNamed}
use Rattle.program_leaves.specs.Names.{names_among}
use Rattle.program_leaves.proofs.AddLaws.{UpTo}
use Rattle.program_leaves.proofs.names.+names.Given as goal

abbrev pub decreases-add_names : goal.decreases-add_names
decreases-add_names l = 2 * l.left

abbrev pub decreases-add_row : goal.decreases-add_row
decreases-add_row l = 2 * l.left + 1

abbrev pub invariant-add_row-loop-k : goal.invariant-add_row-loop-k
invariant-add_row-loop-k l =
    (ts : Trees Identifier) → PartsStand l.work l.items ts → UpTo (IsNamed l.work.symbols) names_among l.fn.names.items l.names.items ts l.from l.k
