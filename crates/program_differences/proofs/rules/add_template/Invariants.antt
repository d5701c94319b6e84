use Rattle.std.proofs.Common.{ℕ, List, take}
use Rattle.std.specs.List.{flat_map}
use Rattle.scheme_model.specs.RulesShape.{Variable}
use Rattle.scheme_model.specs.Ident.{Ident as Identifier}
use Rattle.rename_model.specs.Walks.{TreeNode, rule_slots, template_name}
use Rattle.syntax_tree.specs.Names.{Names}
use Rattle.core_tree.specs.Names.{AllMatch}
use Rattle.program_leaves.specs.Adds.{Adds}
use Rattle.alpha_equal.specs.Nodes.{IsNode}
use Rattle.alpha_equal.specs.Slots.{IsSlot}
use Rattle.program_differences.specs.Variables.{TellsPlaces}
use Rattle.program_differences.proofs.rules.add_template.Given as goal

abbrev pub invariant-loop-node : goal.invariant-loop-node
invariant-loop-node l =
    (names : Names) (vs : List (Variable Identifier)) (unit form : ℕ) (ts : List (TreeNode Identifier)) → TellsPlaces names l.places vs → AllMatch (IsNode names) l.nodes ts →
    Adds (IsSlot names unit form) l.fn.slots.items l.slots.items (flat_map (rule_slots (λ i dots o. template_name vs dots i o)) (take l.node-index ts))
