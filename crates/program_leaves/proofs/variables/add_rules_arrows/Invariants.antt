use Rattle.std.proofs.Common.{◌≡◌, ◌++◌, map, take}
use Rattle.scheme_model.specs.RulesShape.{Rules}
use Rattle.scheme_model.specs.Ident.{Ident as Identifier}
use Rattle.scheme_model.specs.ProgramArrows.{rule_arrows}
use Rattle.syntax_tree.specs.Macros.{RulesFor}
use Rattle.program_leaves.specs.Pairs.{as_arrow}
use Rattle.program_leaves.proofs.variables.add_rules_arrows.Given as goal

abbrev pub invariant-loop-rule : goal.invariant-loop-rule
invariant-loop-rule l = (r : Rules Identifier) → RulesFor l.work l.rules r → map as_arrow l.pairs.items ≡ map as_arrow l.fn.pairs.items ++ rule_arrows r (take l.rule-index r.rules)
