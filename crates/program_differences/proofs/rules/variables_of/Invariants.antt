use Rattle.std.proofs.Common.{List, take}
use Rattle.std.specs.List.{flat_map}
use Rattle.scheme_model.specs.RulesShape.{Rules, role_of}
use Rattle.scheme_model.specs.Ident.{Ident as Identifier}
use Rattle.rename_model.specs.Walks.{TreeNode}
use Rattle.syntax_tree.specs.Macros.{identifiers, TellsRoles}
use Rattle.syntax_tree.specs.Placed.{IsNamed}
use Rattle.core_tree.specs.Names.{AllMatch}
use Rattle.program_leaves.specs.Adds.{Adds}
use Rattle.std.specs.Prelude.{[]}
use Rattle.alpha_equal.specs.Nodes.{IsNode}
use Rattle.program_differences.specs.Variables.{variable_in}
use Rattle.program_differences.proofs.rules.variables_of.Given as goal

abbrev pub invariant-loop-node : goal.invariant-loop-node
invariant-loop-node l =
    (r : Rules Identifier) (ts : List (TreeNode Identifier)) → TellsRoles l.work.symbols l.roles r → AllMatch (IsNode l.work.symbols) l.nodes ts →
    Adds (IsNamed l.work.symbols) [] l.found.items (flat_map (variable_in (role_of identifiers r)) (take l.node-index ts))
