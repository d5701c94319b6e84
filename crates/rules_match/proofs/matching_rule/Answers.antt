use Rattle.std.proofs.Common.{rules, arith, ◌≡◌, ◌+◌, drop, Some, None, sym, subst, ap, ◌∙◌}
use Rattle.std.specs.Prelude.{slice_get}
use Rattle.scheme_model.specs.Matching.{behind, matcher, match_parts, match_rest, first_match}
use Rattle.syntax_tree.specs.Macros.{identifiers}
use Rattle.rules_match.specs.declared.matching.Found.{Found}
use Rattle.rules_match.proofs.Adding.{finds_true, finds_false}
use Rattle.syntax_tree.specs.Bound.{BindingsNamed}
use Rattle.rules_match.proofs.Naming.{none_named}
use Rattle.rules_match.proofs.RuleLaws.{rule_there, rules_past, rule_number, next_rule, added_match}
use Rattle.rules_match.proofs.matching_rule.Goals as goal

pub rule-requires-clause-knows : goal.rule-requires-clause-knows
rule-requires-clause-knows c = (c.requires.rules.0, (c.requires.rules.1.0, c.requires.rules.1.1))

pub rule-requires-clause-rule : goal.rule-requires-clause-rule
rule-requires-clause-rule c =
    let p = rule_there c.args.matching.now.work.now c.loop-k.k c.args.rules.now c.requires.rules.0.rules _ c.requires.rules.1.2 c.loop-k-test.true in
    (p.rule, p.is)

pub loop-k-preserved : goal.loop-k-preserved
loop-k-preserved c = λ r same ts end knows are row.
    let w = c.args.matching.now.work.now in
    let m = matcher identifiers r same in
    let k = c.loop-k.k in
    let p = rule_there w k c.args.rules.now r.rules _ are c.loop-k-test.true in
    let none : Found = record { bindings = c.new.result; leaves = c.new-in-loop-k.result } in
    let a = finds_false w none c.rule.new.found (match_parts m p.rule.parts (match_rest m p.rule.tail) (behind 1 ts) end) c.in_ok-rule.field-0 c.if-branch.false (c.in_ok-rule.ensures.finds r same p.rule ts end knows p.is row) in
    c.loop-k.invariant r same ts end knows are row ∙ next_rule m (behind 1 ts) end (drop k r.rules) p.rule (drop (k + 1) r.rules) None p.split a

pub returns-then-branch-clause-finds : goal.returns-then-branch-clause-finds
returns-then-branch-clause-finds c = λ r same ts end knows are row.
    let w = c.args.matching.now.work.now in
    let m = matcher identifiers r same in
    let k = c.loop-k.k in
    let p = rule_there w k c.args.rules.now r.rules _ are c.loop-k-test.true in
    let none : Found = record { bindings = c.new.result; leaves = c.new-in-loop-k.result } in
    let a = finds_true w none c.rule.new.found (match_parts m p.rule.parts (match_rest m p.rule.tail) (behind 1 ts) end) c.in_ok-rule.field-0 c.if-branch.true (c.in_ok-rule.ensures.finds r same p.rule ts end knows p.is row) in
    let number : c.in-Ok.rule ≡ k = first_of (cc, omega arith, search rules, grind arith) in (
      record { rule = p.rule; match = a.0 },
      c.loop-k.invariant r same ts end knows are row ∙ next_rule m (behind 1 ts) end (drop k r.rules) p.rule (drop (k + 1) r.rules) (Some a.0) p.split a.1,
      record {
        rule = ap (slice_get r.rules) number ∙ rule_number r.rules k p.rule (drop (k + 1) r.rules) p.split;
        match = added_match w none c.rule.new.found a.0 c.from_vec.result c.from_vec-then-branch.result c.new.ensures.items c.new-in-loop-k.ensures.items c.from_vec.ensures c.from_vec-then-branch.ensures a.2;
      },
    )

pub returns-clause-finds : goal.returns-clause-finds
returns-clause-finds c = λ r same ts end knows are row.
    let w = c.args.matching.now.work.now in
    c.loop-k.invariant r same ts end knows are row ∙ ap (λ x. first_match (matcher identifiers r same) x (behind 1 ts) end) (rules_past w c.loop-k.k c.args.rules.now r.rules are c.loop-k-test.false)

pub returns-then-branch-clause-named : goal.returns-then-branch-clause-named
returns-then-branch-clause-named c = λ region can row.
    let w = c.args.matching.now.work.now in
    subst (BindingsNamed w region) (sym c.from_vec.ensures) (c.in_ok-rule.ensures.named region can row (none_named w region c.new.result.items c.new.ensures.items))
