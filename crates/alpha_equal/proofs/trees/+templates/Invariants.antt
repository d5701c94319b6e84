use Rattle.std.proofs.Common.{◌+◌, ◌*◌}
use Rattle.scheme_model.specs.Trees.{Trees}
use Rattle.scheme_model.specs.RulesShape.{Rules}
use Rattle.scheme_model.specs.Ident.{Ident as Identifier}
use Rattle.rename_model.specs.Walks.{nodes_among}
use Rattle.syntax_tree.specs.Looks.{PartsStand}
use Rattle.syntax_tree.specs.Macros.{TellsRoles}
use Rattle.program_leaves.proofs.AddLaws.{UpTo}
use Rattle.alpha_equal.specs.Nodes.{dots_where, IsNode}
use Rattle.alpha_equal.proofs.trees.+templates.Given as goal

abbrev pub decreases-add_template : goal.decreases-add_template
decreases-add_template l = 2 * l.left

abbrev pub decreases-add_row : goal.decreases-add_row
decreases-add_row l = 2 * l.left + 1

abbrev pub invariant-add_row-loop-k : goal.invariant-add_row-loop-k
invariant-add_row-loop-k l =
    (r : Rules Identifier) (ts : Trees Identifier) → TellsRoles l.work.symbols l.roles r → PartsStand l.work l.items ts →
    UpTo (IsNode l.work.symbols) (nodes_among (dots_where l.escaped r)) l.fn.nodes.items l.nodes.items ts l.from l.k
