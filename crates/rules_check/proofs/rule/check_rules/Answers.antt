use Rattle.std.proofs.Common.{ℕ, suc, List, drop, sym, ap, ◌∙◌, add-one, subst}
use Rattle.scheme_model.specs.RulesShape.{Rule, check_rules}
use Rattle.scheme_model.specs.Ident.{Ident as Identifier}
use Rattle.syntax_tree.specs.Macros.{identifiers}
use Rattle.rules_check.specs.Checked.{Refuses}
use Rattle.rules_check.proofs.ReadLaws.{ends_err}
use Rattle.rules_check.proofs.Faults.{rule_there, rules_past, rule_refused, rule_passed}
use Rattle.rules_check.proofs.rule.check_rules.Goals as goal

pub check_rule-requires : goal.check_rule-requires
check_rule-requires c =
    let p = rule_there c.args.work.now c.loop-rule.rule-index c.args.rules.now c.requires.0 _ c.requires.1 c.loop-rule-test.true in (p.rule, p.is)

pub returns-in_err-check_rule : goal.returns-in_err-check_rule
returns-in_err-check_rule c = λ r rs tells are.
    let w = c.args.work.now in
    let k = c.loop-rule.rule-index in
    let p = rule_there w k c.args.rules.now rs (record { pattern = record { number = 0 }; template = record { number = 0 } }) are c.loop-rule-test.true in
    let e = c.in_err-check_rule.field-0.0 in
    ends_err w (λ done also. Unit {0}) (check_rules identifiers r rs) c.from_residual.result e c.from_residual.ensures.1
    (subst (Refuses w e) (sym (c.loop-rule.invariant r rs tells are))
    (rule_refused w r (drop k rs) p.rule (drop (suc k) rs) e p.split (c.in_err-check_rule.ensures r p.rule tells p.is)))

pub loop-rule-preserved : goal.loop-rule-preserved
loop-rule-preserved c = λ r rs tells are.
    let w = c.args.work.now in
    let k = c.loop-rule.rule-index in
    let p = rule_there w k c.args.rules.now rs (record { pattern = record { number = 0 }; template = record { number = 0 } }) are c.loop-rule-test.true in
    let done = c.in_ok-check_rule.ensures r p.rule tells p.is in
    c.loop-rule.invariant r rs tells are ∙ rule_passed r (drop k rs) p.rule (drop (suc k) rs) done.0 p.split done.1 ∙ ap (λ (j : ℕ). check_rules identifiers r (drop j rs)) (sym (add-one k))

pub returns : goal.returns
returns c = λ r rs tells are.
    (tt, c.loop-rule.invariant r rs tells are ∙ ap (λ (xs : List (Rule Identifier)). check_rules identifiers r xs) (rules_past c.args.work.now c.loop-rule.rule-index c.args.rules.now rs are c.loop-rule-test.false), tt)
