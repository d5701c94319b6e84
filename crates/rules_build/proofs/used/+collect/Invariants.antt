use Rattle.std.proofs.Common.{◌≡◌, ℕ, ◌+◌, ◌*◌}
use Rattle.std.specs.Prelude.{◌||◌}
use Rattle.std.specs.BTreeSet.{contains}
use Rattle.std.specs.Ordering.{nat_cmp}
use Rattle.scheme_model.specs.Trees.{Trees}
use Rattle.scheme_model.specs.Matching.{behind}
use Rattle.scheme_model.specs.Building.{stands_among}
use Rattle.scheme_model.specs.Ident.{Ident as Identifier, same_ident}
use Rattle.syntax_tree.specs.Looks.{PartsStand}
use Rattle.syntax_tree.specs.Macros.{IsIdent}
use Rattle.rules_build.proofs.used.+collect.Given as goal

abbrev pub decreases-collect : goal.decreases-collect
decreases-collect l = 2 * l.left

abbrev pub decreases-collect_all : goal.decreases-collect_all
decreases-collect_all l = 2 * l.left + 1

abbrev pub invariant-collect_all-loop-item : goal.invariant-collect_all-loop-item
invariant-collect_all-loop-item l =
    (ts : Trees Identifier) (n : ℕ) (i : Identifier) → PartsStand l.work l.items ts → IsIdent l.work.symbols n i →
    (contains nat_cmp l.fn.names n || stands_among same_ident i ts) ≡ (contains nat_cmp l.names n || stands_among same_ident i (behind l.item-index ts))
