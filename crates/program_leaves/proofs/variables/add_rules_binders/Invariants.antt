use Rattle.std.proofs.Common.{◌≡◌, ◌++◌, take}
use Rattle.scheme_model.specs.RulesShape.{Rules}
use Rattle.scheme_model.specs.Ident.{Ident as Identifier}
use Rattle.scheme_model.specs.ProgramArrows.{rule_binders}
use Rattle.syntax_tree.specs.Macros.{RulesFor}
use Rattle.program_leaves.proofs.variables.add_rules_binders.Given as goal

abbrev pub invariant-loop-rule : goal.invariant-loop-rule
invariant-loop-rule l = (r : Rules Identifier) → RulesFor l.work l.rules r → l.places.items ≡ l.fn.places.items ++ rule_binders r (take l.rule-index r.rules)
