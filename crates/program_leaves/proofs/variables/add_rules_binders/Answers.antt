use Rattle.std.proofs.Common.{List, take, sym, ap, subst}
use Rattle.scheme_model.specs.RulesShape.{pattern_variables}
use Rattle.scheme_model.specs.ProgramArrows.{variable_places, rule_binders}
use Rattle.syntax_tree.specs.Macros.{identifiers, AreRules}
use Rattle.syntax_tree.specs.declared.rules.Rule.{Rule}
use Rattle.program_leaves.proofs.VariableLaws.{tells_roles, rule_at, rules_all, binders_more}
use Rattle.program_leaves.proofs.PlaceSteps.{some_added, both_added}
use Rattle.program_leaves.proofs.variables.add_rules_binders.Goals as goal

pub add_rule_binders-requires : goal.add_rule_binders-requires
add_rule_binders-requires c =
    let w = c.args.work.now in
    let r = c.requires.0 in
    let are = subst (λ (xs : List Rule). AreRules w xs r.rules) (sym c.as_slice-rule-items.ensures) c.requires.1.rules in
    let a = rule_at w c.as_slice-rule-items.result.now r.rules c.loop-rule.rule-index (record { pattern = record { number = 0 }; template = record { number = 0 } }) are c.loop-rule-test.true in
    (a.item, a.is)

pub loop-rule-preserved : goal.loop-rule-preserved
loop-rule-preserved c = λ r of.
    let w = c.args.work.now in
    let k = c.loop-rule.rule-index in
    let are = subst (λ (xs : List Rule). AreRules w xs r.rules) (sym c.as_slice-rule-items.ensures) of.rules in
    let a = rule_at w c.as_slice-rule-items.result.now r.rules k (record { pattern = record { number = 0 }; template = record { number = 0 } }) are c.loop-rule-test.true in
    let tells = tells_roles w.symbols c.in_ok-roles.roles c.args.rules.now r c.in_ok-roles.ensures of.ellipsis of.literals in
    both_added c.args.places.now.items c.loop-rule.places.items c.add_rule_binders.new.places.items (rule_binders r (take k r.rules)) (variable_places (pattern_variables identifiers r a.item)) _ (c.loop-rule.invariant r of)
    (c.in_ok-add_rule_binders.ensures r a.item tells a.is) (binders_more r r.rules k a.item a.more)

pub returns : goal.returns
returns c = λ r of.
    let w = c.args.work.now in
    let are = subst (λ (xs : List Rule). AreRules w xs r.rules) (sym c.as_slice-rule-items.ensures) of.rules in
    some_added c.args.places.now.items c.loop-rule.places.items (rule_binders r (take c.loop-rule.rule-index r.rules)) (rule_binders r r.rules) (c.loop-rule.invariant r of)
    (ap (rule_binders r) (sym (rules_all w c.as_slice-rule-items.result.now r.rules c.loop-rule.rule-index are c.loop-rule-test.false)))
