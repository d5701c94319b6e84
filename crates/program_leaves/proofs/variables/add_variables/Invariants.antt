use Rattle.std.proofs.Common.{List, take}
use Rattle.scheme_model.specs.ExpansionFaults.{Named}
use Rattle.scheme_model.specs.RulesShape.{Rules, role_of}
use Rattle.scheme_model.specs.Ident.{Ident as Identifier}
use Rattle.syntax_tree.specs.Macros.{identifiers, TellsRoles}
use Rattle.syntax_tree.specs.Placed.{IsNamed}
use Rattle.core_tree.specs.Names.{AllMatch}
use Rattle.program_leaves.specs.Adds.{Adds}
use Rattle.program_leaves.specs.Variables.{chosen}
use Rattle.program_leaves.proofs.variables.add_variables.Given as goal

abbrev pub invariant-loop-name : goal.invariant-loop-name
invariant-loop-name l =
    (r : Rules Identifier) (ms : List (Named Identifier)) → TellsRoles l.work.symbols l.roles r → AllMatch (IsNamed l.work.symbols) l.names ms →
    Adds (IsNamed l.work.symbols) l.fn.found.items l.found.items (chosen (role_of identifiers r) (take l.name-index ms))
