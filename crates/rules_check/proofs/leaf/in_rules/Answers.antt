use Rattle.rules_check.proofs.Faults.{rule_there, rules_past}
use Rattle.rules_check.proofs.Gathering.{rules_none, rules_one_more, rules_all}
use Rattle.rules_check.proofs.leaf.in_rules.Goals as goal

pub loop-rule-init : goal.loop-rule-init
loop-rule-init c = λ r rs tells are. rules_none c.args.work.now.symbols r rs c.args.leaves.now.items

pub in_rule-requires : goal.in_rule-requires
in_rule-requires c =
    let p = rule_there c.args.work.now c.loop-rule.rule-index c.args.rules.now c.requires.0 _ c.requires.1 c.loop-rule-test.true in (p.rule, p.is)

pub loop-rule-preserved : goal.loop-rule-preserved
loop-rule-preserved c = λ r rs tells are.
    let w = c.args.work.now in
    let k = c.loop-rule.rule-index in
    let p = rule_there w k c.args.rules.now rs (record { pattern = record { number = 0 }; template = record { number = 0 } }) are c.loop-rule-test.true in
    rules_one_more w.symbols r rs c.args.leaves.now.items c.loop-rule.leaves.items c.in_rule.new.leaves.items k p.rule (c.loop-rule.invariant r rs tells are) p.split (c.in_ok-in_rule.ensures r p.rule tells p.is)

pub returns : goal.returns
returns c = λ r rs tells are.
    rules_all c.args.work.now.symbols r rs c.args.leaves.now.items c.loop-rule.leaves.items c.loop-rule.rule-index (c.loop-rule.invariant r rs tells are) (rules_past c.args.work.now c.loop-rule.rule-index c.args.rules.now rs are c.loop-rule-test.false)
