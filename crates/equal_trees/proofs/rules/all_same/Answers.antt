use Rattle.std.proofs.Common.{◌≡◌, ◌<◌, ◌≤◌, List, length, false, refl, sym, ap, ◌∙◌, arith}
use Rattle.scheme_model.specs.Ident.{Ident}
use Rattle.scheme_model.specs.RulesShape.{Rule}
use Rattle.equal_trees.proofs.EqualLaws.{clash, is_not, rule_there, rules_past, rules_many, list_more, list_no_more}
use Rattle.equal_trees.proofs.rules.all_same.Goals as goal

pub returns-then-others-count : goal.returns-then-others-count
returns-then-others-count c = λ rs qs f g.
    let a = rules_many c.args.work.now c.args.rules.now rs f in
    let b = rules_many c.args.work.now c.args.others.now qs g in
    is_not false refl (λ e. let n : length rs ≡ length qs = ap (λ (xs : List (Rule Ident)). length xs) e in absurd (omega (arith, a, b, n)))

pub loop-k-init : goal.loop-k-init
loop-k-init c = λ rs qs f g. (λ e. e, λ e. e)

pub same_rule-requires-clause-one : goal.same_rule-requires-clause-one
same_rule-requires-clause-one c =
    let f = c.requires.one in
    let k = c.loop-k.k in
    let l : k < length c.args.rules.now = omega arith in
    let p = rule_there c.args.work.now k c.args.rules.now f.0 _ f.1 l in
    (p.0, p.1)

pub same_rule-requires-clause-other : goal.same_rule-requires-clause-other
same_rule-requires-clause-other c =
    let g = c.requires.other in
    let k = c.loop-k.k in
    let l : k < length c.args.others.now = omega arith in
    let p = rule_there c.args.work.now k c.args.others.now g.0 _ g.1 l in
    (p.0, p.1)

pub loop-k-preserved : goal.loop-k-preserved
loop-k-preserved c = λ rs qs f g.
    let w = c.args.work.now in
    let k = c.loop-k.k in
    let l : k < length c.args.rules.now = omega arith in
    let m : k < length c.args.others.now = omega arith in
    let p = rule_there w k c.args.rules.now rs _ f l in
    let q = rule_there w k c.args.others.now qs _ g m in
    list_more k rs qs p.0 q.0 p.2 q.2 (c.loop-k.invariant rs qs f g) ((c.same_rule.ensures p.0 q.0 p.1 q.1).0 c.if-not-same_rule.false)

pub returns-then-not-same_rule : goal.returns-then-not-same_rule
returns-then-not-same_rule c = λ rs qs f g.
    let w = c.args.work.now in
    let k = c.loop-k.k in
    let l : k < length c.args.rules.now = omega arith in
    let m : k < length c.args.others.now = omega arith in
    let p = rule_there w k c.args.rules.now rs _ f l in
    let q = rule_there w k c.args.others.now qs _ g m in
    is_not false refl (list_no_more k rs qs p.0 q.0 p.2 q.2 (c.loop-k.invariant rs qs f g) (λ e. clash (sym ((c.same_rule.ensures p.0 q.0 p.1 q.1).1 e) ∙ c.if-not-same_rule.true)))

pub returns : goal.returns
returns c = λ rs qs f g.
    let w = c.args.work.now in
    let k = c.loop-k.k in
    let l : length c.args.rules.now ≤ k = omega arith in
    let m : length c.args.others.now ≤ k = omega arith in
    (λ h. (c.loop-k.invariant rs qs f g).1 (rules_past w k c.args.rules.now rs f l ∙ sym (rules_past w k c.args.others.now qs g m)), λ h. refl)
