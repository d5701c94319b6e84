use Rattle.std.proofs.Common.{◌+◌, ◌*◌}
use Rattle.scheme_model.specs.Trees.{Trees}
use Rattle.scheme_model.specs.RulesShape.{Rules}
use Rattle.scheme_model.specs.Ident.{Ident as Identifier}
use Rattle.syntax_tree.specs.Looks.{PartsStand}
use Rattle.syntax_tree.specs.Macros.{TellsRoles}
use Rattle.rules_check.proofs.Contents.{FindsUpTo}
use Rattle.rules_check.proofs.pattern.+pattern.Given as goal

abbrev pub decreases-find : goal.decreases-find
decreases-find l = 3 * l.left

abbrev pub decreases-find_list : goal.decreases-find_list
decreases-find_list l = 3 * l.left + 2

abbrev pub decreases-find_parts : goal.decreases-find_parts
decreases-find_parts l = 3 * l.left + 1

abbrev pub invariant-find_parts-loop-k : goal.invariant-find_parts-loop-k
invariant-find_parts-loop-k l =
    (r : Rules Identifier) (ts : Trees Identifier) → TellsRoles l.work.symbols l.roles r → PartsStand l.work l.items ts → FindsUpTo l.work l.fn.found l.found r ts l.depth l.from l.k
