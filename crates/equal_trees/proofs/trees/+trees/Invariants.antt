use Rattle.std.proofs.Common.{◌≡◌, ◌↔◌, ◌+◌, ◌*◌}
use Rattle.scheme_model.specs.Ident.{Ident as Identifier}
use Rattle.scheme_model.specs.Matching.{behind}
use Rattle.scheme_model.specs.Trees.{Trees}
use Rattle.syntax_tree.specs.Looks.{PartsStand}
use Rattle.equal_trees.proofs.trees.+trees.Given as goal

abbrev pub decreases-same_within : goal.decreases-same_within
decreases-same_within l = 4 * l.left

abbrev pub decreases-is_list : goal.decreases-is_list
decreases-is_list l = 4 * l.left + 3

abbrev pub decreases-is_vector : goal.decreases-is_vector
decreases-is_vector l = 4 * l.left + 3

abbrev pub decreases-same_parts : goal.decreases-same_parts
decreases-same_parts l = 4 * l.left + 1

abbrev pub decreases-same_ends : goal.decreases-same_ends
decreases-same_ends l = 4 * l.left + 2

abbrev pub decreases-is_dotted : goal.decreases-is_dotted
decreases-is_dotted l = 4 * l.left + 1

abbrev pub invariant-same_parts-loop-k : goal.invariant-same_parts-loop-k
invariant-same_parts-loop-k l = (ts us : Trees Identifier) → PartsStand l.work l.parts ts → PartsStand l.work l.others us → (behind l.from ts ≡ behind l.from us) ↔ (behind l.k ts ≡ behind l.k us)
