use Rattle.std.proofs.Common.{List, false, refl, sym, ap, ◌∙◌, subst}
use Rattle.scheme_model.specs.Ident.{Ident}
use Rattle.scheme_model.specs.RulesShape.{Rules}
use Rattle.syntax_tree.specs.Macros.{AreRules}
use Rattle.syntax_tree.specs.declared.rules.Rule as code_rule
use Rattle.equal_trees.proofs.EqualLaws.{clash, is_not, ellipsis_same, literals_same, enough, rules_same}
use Rattle.equal_trees.proofs.rules.same_rules.Goals as goal

pub returns-then-not-same_ident : goal.returns-then-not-same_ident
returns-then-not-same_ident c = λ r q f g.
    let same = ellipsis_same c.args.work.now.symbols c.told_apart.ensures.idents c.args.one.now.ellipsis c.args.other.now.ellipsis r.ellipsis q.ellipsis f.stands.ellipsis g.stands.ellipsis in
    is_not false refl (λ e. clash (sym (c.same_ident.ensures.1 (same.1 (ap (λ (x : Rules Ident). x.ellipsis) e))) ∙ c.if-not-same_ident.true))

pub same_literals-requires-clause-one : goal.same_literals-requires-clause-one
same_literals-requires-clause-one c =
    let f = c.requires.one in let g = c.requires.other in
    enough c.args.work.now c.told_apart.ensures.idents c.args.one.now c.args.other.now c.args.one_leaves.now c.args.other_leaves.now f.0 g.0 f.1 g.1

pub same_literals-requires-clause-other : goal.same_literals-requires-clause-other
same_literals-requires-clause-other c =
    let f = c.requires.one in let g = c.requires.other in
    enough c.args.work.now c.told_apart.ensures.idents c.args.other.now c.args.one.now c.args.other_leaves.now c.args.one_leaves.now g.0 f.0 g.1 f.1

pub returns-then-not-same_literals : goal.returns-then-not-same_literals
returns-then-not-same_literals c = λ r q f g.
    let same = literals_same c.args.work.now c.told_apart.ensures.idents c.args.one.now c.args.other.now c.args.one_leaves.now c.args.other_leaves.now r q f g in
    is_not false refl (λ e. clash (sym (c.same_literals.ensures.1 (same.1 (ap (λ (x : Rules Ident). x.literals) e))) ∙ c.if-not-same_literals.true))

pub all_same-requires-clause-one : goal.all_same-requires-clause-one
all_same-requires-clause-one c = let f = c.requires.one in (f.0.rules, subst (λ (xs : List code_rule.Rule). AreRules c.args.work.now xs f.0.rules) (sym c.as_slice.ensures) f.1.stands.rules)

pub all_same-requires-clause-other : goal.all_same-requires-clause-other
all_same-requires-clause-other c = let g = c.requires.other in (g.0.rules, subst (λ (xs : List code_rule.Rule). AreRules c.args.work.now xs g.0.rules) (sym c.as_slice-2.ensures) g.1.stands.rules)

pub returns : goal.returns
returns c = λ r q f g.
    let w = c.args.work.now in
    let ellipsis = ellipsis_same w.symbols c.told_apart.ensures.idents c.args.one.now.ellipsis c.args.other.now.ellipsis r.ellipsis q.ellipsis f.stands.ellipsis g.stands.ellipsis in
    let literals = literals_same w c.told_apart.ensures.idents c.args.one.now c.args.other.now c.args.one_leaves.now c.args.other_leaves.now r q f g in
    let all = c.all_same.ensures r.rules q.rules (subst (λ (xs : List code_rule.Rule). AreRules w xs r.rules) (sym c.as_slice.ensures) f.stands.rules)
    (subst (λ (xs : List code_rule.Rule). AreRules w xs q.rules) (sym c.as_slice-2.ensures) g.stands.rules) in (
      λ h. rules_same r q (ellipsis.0 (c.same_ident.ensures.0 c.if-not-same_ident.false)) (literals.0 (c.same_literals.ensures.0 c.if-not-same_literals.false)) (all.0 h),
      λ e. all.1 (ap (λ (x : Rules Ident). x.rules) e),
    )
