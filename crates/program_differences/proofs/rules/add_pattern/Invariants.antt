use Rattle.std.proofs.Common.{ℕ, List, take}
use Rattle.std.specs.List.{flat_map}
use Rattle.scheme_model.specs.RulesShape.{Rules, Variable, role_of}
use Rattle.scheme_model.specs.Ident.{Ident as Identifier}
use Rattle.rename_model.specs.Walks.{TreeNode, rule_slots, pattern_name}
use Rattle.syntax_tree.specs.Macros.{identifiers, TellsRoles}
use Rattle.core_tree.specs.Names.{AllMatch}
use Rattle.program_leaves.specs.Adds.{Adds}
use Rattle.alpha_equal.specs.Nodes.{IsNode}
use Rattle.alpha_equal.specs.Slots.{IsSlot}
use Rattle.program_differences.specs.Variables.{TellsPlaces}
use Rattle.program_differences.proofs.rules.add_pattern.Given as goal

abbrev pub invariant-loop-node : goal.invariant-loop-node
invariant-loop-node l =
    (r : Rules Identifier) (vs : List (Variable Identifier)) (unit form : ℕ) (ts : List (TreeNode Identifier)) → TellsRoles l.work.symbols l.roles r → TellsPlaces l.work.symbols l.places vs → AllMatch (IsNode l.work.symbols) l.nodes ts →
    Adds (IsSlot l.work.symbols unit form) l.fn.slots.items l.slots.items (flat_map (rule_slots (λ i dots o. pattern_name vs (role_of identifiers r i) i o)) (take l.node-index ts))
