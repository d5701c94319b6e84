use Rattle.std.proofs.Common.{◌≡◌, ◌+◌, ◌*◌}
use Rattle.scheme_model.specs.Trees.{Trees}
use Rattle.scheme_model.specs.Matching.{behind}
use Rattle.scheme_model.specs.Building.{stands_among}
use Rattle.scheme_model.specs.Ident.{Ident as Identifier, same_ident}
use Rattle.syntax_tree.specs.Looks.{PartsStand}
use Rattle.syntax_tree.specs.Macros.{IsIdent}
use Rattle.rules_build.proofs.used.+stands.Given as goal

abbrev pub decreases-stands : goal.decreases-stands
decreases-stands l = 2 * l.left

abbrev pub decreases-any_stands : goal.decreases-any_stands
decreases-any_stands l = 2 * l.left + 1

abbrev pub invariant-any_stands-loop-item : goal.invariant-any_stands-loop-item
invariant-any_stands-loop-item l =
    (ts : Trees Identifier) (i : Identifier) → PartsStand l.work l.items ts → IsIdent l.work.symbols l.id i → stands_among same_ident i ts ≡ stands_among same_ident i (behind l.item-index ts)
