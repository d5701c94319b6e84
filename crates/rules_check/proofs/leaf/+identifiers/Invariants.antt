use Rattle.std.proofs.Common.{ℕ, ◌+◌, ◌*◌, Option}
use Rattle.std.specs.Prelude.{is_some}
use Rattle.scheme_model.specs.Trees.{Trees}
use Rattle.scheme_model.specs.RulesShape.{Rules}
use Rattle.scheme_model.specs.Leaves.{template_among}
use Rattle.scheme_model.specs.Ident.{Ident as Identifier}
use Rattle.syntax_tree.specs.Looks.{PartsStand}
use Rattle.syntax_tree.specs.Macros.{TellsRoles}
use Rattle.rules_check.specs.Templates.{dots_where, HasDepths}
use Rattle.rules_check.proofs.Gathering.{UpTo}
use Rattle.rules_check.proofs.leaf.+identifiers.Given as goal

abbrev pub decreases-in_template : goal.decreases-in_template
decreases-in_template l = 2 * l.left

abbrev pub decreases-in_template_list : goal.decreases-in_template_list
decreases-in_template_list l = 2 * l.left + 1

abbrev pub invariant-in_template_list-loop-k : goal.invariant-in_template_list-loop-k
invariant-in_template_list-loop-k l =
    (r : Rules Identifier) (depth : Identifier → Option ℕ) (ts : Trees Identifier) → TellsRoles l.work.symbols l.roles r → HasDepths l.work l.depths depth → PartsStand l.work l.items ts →
    UpTo l.work.symbols (template_among (dots_where l.escaped r) (λ (i : Identifier). is_some (depth i))) l.fn.leaves.items l.leaves.items ts l.from l.k
