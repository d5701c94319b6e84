use Rattle.std.proofs.Common.{◌+◌, List, drop, subst}
use Rattle.scheme_model.specs.RulesShape.{Rule, role_of, dots_of}
use Rattle.scheme_model.specs.Matching.{behind}
use Rattle.scheme_model.specs.Ident.{Ident as Identifier}
use Rattle.syntax_tree.specs.Macros.{identifiers}
use Rattle.rules_match.proofs.RuleLaws.{rule_there, rules_past}
use Rattle.rules_match.proofs.PairSteps.{RulesUpTo, rules_more, rules_all}
use Rattle.rules_match.proofs.pairs.compare_rules.Goals as goal

pub compare_rule-requires-clause-rule : goal.compare_rule-requires-clause-rule
compare_rule-requires-clause-rule c =
    let p = rule_there c.args.work.now c.loop-rule.rule-index c.args.rules.now c.requires.rules.0 _ c.requires.rules.1 c.loop-rule-test.true in
    (p.rule, p.is)

pub loop-rule-preserved : goal.loop-rule-preserved
loop-rule-preserved c = λ r rs ts end tells are row.
    let w = c.args.work.now in
    let k = c.loop-rule.rule-index in
    let p = rule_there w k c.args.rules.now rs _ are c.loop-rule-test.true in
    rules_more w c.args.pairs.now c.loop-rule.pairs c.compare_rule.new.pairs (role_of identifiers r) (dots_of identifiers r) rs p.rule (drop (k + 1) rs) (behind 1 ts) end
    (subst (λ (x : List (Rule Identifier)). RulesUpTo w c.args.pairs.now c.loop-rule.pairs (role_of identifiers r) (dots_of identifiers r) rs x (behind 1 ts) end) p.split (c.loop-rule.invariant r rs ts end tells are row))
    (c.in_ok-compare_rule.ensures r p.rule ts end tells p.is row)

pub returns : goal.returns
returns c = λ r rs ts end tells are row.
    let w = c.args.work.now in
    let k = c.loop-rule.rule-index in
    rules_all w c.args.pairs.now c.loop-rule.pairs (role_of identifiers r) (dots_of identifiers r) rs (drop k rs) (behind 1 ts) end (c.loop-rule.invariant r rs ts end tells are row)
    (rules_past w k c.args.rules.now rs are c.loop-rule-test.false)
