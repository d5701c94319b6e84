use Rattle.std.proofs.Common.{List}
use Rattle.scheme_model.specs.RulesShape.{Rules, Rule}
use Rattle.scheme_model.specs.Ident.{Ident as Identifier}
use Rattle.syntax_tree.specs.Macros.{TellsRoles, AreRules}
use Rattle.rules_check.proofs.Gathering.{RulesUpTo}
use Rattle.rules_check.proofs.leaf.in_rules.Given as goal

abbrev pub invariant-loop-rule : goal.invariant-loop-rule
invariant-loop-rule l =
    (r : Rules Identifier) (rs : List (Rule Identifier)) → TellsRoles l.work.symbols l.roles r → AreRules l.work l.rules rs →
    RulesUpTo l.work.symbols r rs l.fn.leaves.items l.leaves.items l.rule-index
