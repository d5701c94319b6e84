use Rattle.std.proofs.Common.{List, drop}
use Rattle.scheme_model.specs.Trees.{Trees, Tail}
use Rattle.scheme_model.specs.RulesShape.{Rules, Rule, role_of, dots_of}
use Rattle.scheme_model.specs.Matching.{behind}
use Rattle.scheme_model.specs.Ident.{Ident as Identifier}
use Rattle.syntax_tree.specs.Macros.{identifiers, TellsRoles, AreRules}
use Rattle.rules_match.specs.Rows.{IsRow}
use Rattle.rules_match.proofs.PairSteps.{RulesUpTo}
use Rattle.rules_match.proofs.pairs.compare_rules.Given as goal

abbrev pub invariant-loop-rule : goal.invariant-loop-rule
invariant-loop-rule l =
    (r : Rules Identifier) (rs : List (Rule Identifier)) (ts : Trees Identifier) (end : Tail Identifier) → TellsRoles l.work.symbols l.roles r → AreRules l.work l.rules rs → IsRow l.work l.form ts end →
    RulesUpTo l.work l.fn.pairs l.pairs (role_of identifiers r) (dots_of identifiers r) rs (drop l.rule-index rs) (behind 1 ts) end
