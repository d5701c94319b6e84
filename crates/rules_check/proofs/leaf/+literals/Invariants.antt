use Rattle.std.proofs.Common.{◌+◌, ◌*◌}
use Rattle.scheme_model.specs.Trees.{Trees}
use Rattle.scheme_model.specs.RulesShape.{Rules, role_of}
use Rattle.scheme_model.specs.Leaves.{leaves_among}
use Rattle.scheme_model.specs.Ident.{Ident as Identifier}
use Rattle.syntax_tree.specs.Looks.{PartsStand}
use Rattle.syntax_tree.specs.Macros.{identifiers, TellsRoles}
use Rattle.rules_check.proofs.Gathering.{UpTo}
use Rattle.rules_check.proofs.leaf.+literals.Given as goal

abbrev pub decreases-in_pattern : goal.decreases-in_pattern
decreases-in_pattern l = 2 * l.left

abbrev pub decreases-in_pattern_list : goal.decreases-in_pattern_list
decreases-in_pattern_list l = 2 * l.left + 1

abbrev pub invariant-in_pattern_list-loop-k : goal.invariant-in_pattern_list-loop-k
invariant-in_pattern_list-loop-k l =
    (r : Rules Identifier) (ts : Trees Identifier) → TellsRoles l.work.symbols l.roles r → PartsStand l.work l.items ts →
    UpTo l.work.symbols (leaves_among (role_of identifiers r)) l.fn.leaves.items l.leaves.items ts l.from l.k
