use Rattle.std.proofs.Common.{◌≡◌, List, drop}
use Rattle.scheme_model.specs.RulesShape.{Rules, Rule, check_rules}
use Rattle.scheme_model.specs.Ident.{Ident as Identifier}
use Rattle.syntax_tree.specs.Macros.{identifiers, TellsRoles, AreRules}
use Rattle.rules_check.proofs.rule.check_rules.Given as goal

abbrev pub invariant-loop-rule : goal.invariant-loop-rule
invariant-loop-rule l =
    (r : Rules Identifier) (rs : List (Rule Identifier)) → TellsRoles l.work.symbols l.roles r → AreRules l.work l.rules rs →
    check_rules identifiers r rs ≡ check_rules identifiers r (drop l.rule-index rs)
