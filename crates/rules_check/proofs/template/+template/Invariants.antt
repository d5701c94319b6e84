use Rattle.std.proofs.Common.{◌≡◌, ℕ, ◌+◌, ◌*◌, ◌≤◌, length, Option}
use Rattle.scheme_model.specs.Trees.{Trees}
use Rattle.scheme_model.specs.RulesShape.{Rules, leading}
use Rattle.scheme_model.specs.Matching.{behind}
use Rattle.scheme_model.specs.Ident.{Ident as Identifier}
use Rattle.syntax_tree.specs.Looks.{PartsStand}
use Rattle.syntax_tree.specs.Macros.{TellsRoles}
use Rattle.rules_check.specs.Templates.{dots_where, of_parts, Sees, HasDepths}
use Rattle.rules_check.proofs.template.+template.Given as goal

abbrev pub decreases-see : goal.decreases-see
decreases-see l = 3 * l.left

abbrev pub decreases-see_list : goal.decreases-see_list
decreases-see_list l = 3 * l.left + 2

abbrev pub decreases-see_parts : goal.decreases-see_parts
decreases-see_parts l = 3 * l.left + 1

abbrev pub invariant-see_parts-loop-k : goal.invariant-see_parts-loop-k
invariant-see_parts-loop-k l =
    (l.behind + l.k ≤ length l.items)
    × ((r : Rules Identifier) (depth : Identifier → Option ℕ) (ts : Trees Identifier) → TellsRoles l.work.symbols l.roles r → HasDepths l.work l.depths depth → PartsStand l.work l.items ts →
    (l.behind ≡ leading (dots_where l.escaped r) (behind l.k ts)) × Sees l.work l.seen (of_parts (dots_where l.escaped r) depth (behind l.k ts) l.level))
