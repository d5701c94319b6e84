use Rattle.std.proofs.Common.{false, refl, sym, ap, ◌∙◌}
use Rattle.scheme_model.specs.Ident.{Ident}
use Rattle.scheme_model.specs.RulesShape.{Rule}
use Rattle.equal_trees.proofs.EqualLaws.{clash, is_not, pattern_of, rule_same}
use Rattle.equal_trees.proofs.rules.same_rule.Goals as goal

pub same_pattern-requires-clause-one : goal.same_pattern-requires-clause-one
same_pattern-requires-clause-one c = let h = c.requires.one in (h.0.parts, h.0.tail, pattern_of c.args.work.now c.args.rule h.0 h.1)

pub same_pattern-requires-clause-other : goal.same_pattern-requires-clause-other
same_pattern-requires-clause-other c = let h = c.requires.other in (h.0.parts, h.0.tail, pattern_of c.args.work.now c.args.other h.0 h.1)

pub returns-then-not-same_pattern : goal.returns-then-not-same_pattern
returns-then-not-same_pattern c = λ r q f g.
    let w = c.args.work.now in
    let p = c.same_pattern.ensures r.parts q.parts r.tail q.tail (pattern_of w c.args.rule r f) (pattern_of w c.args.other q g) in
    is_not false refl (λ e. clash (sym (p.1 (ap (λ (x : Rule Ident). x.parts) e, ap (λ (x : Rule Ident). x.tail) e)) ∙ c.if-not-same_pattern.true))

pub same_tree-requires-clause-one : goal.same_tree-requires-clause-one
same_tree-requires-clause-one c = let h = c.requires.one in (h.0.template, h.1.template)

pub same_tree-requires-clause-other : goal.same_tree-requires-clause-other
same_tree-requires-clause-other c = let h = c.requires.other in (h.0.template, h.1.template)

pub returns : goal.returns
returns c = λ r q f g.
    let w = c.args.work.now in
    let p = (c.same_pattern.ensures r.parts q.parts r.tail q.tail (pattern_of w c.args.rule r f) (pattern_of w c.args.other q g)).0 c.if-not-same_pattern.false in
    let t = c.same_tree.ensures r.template q.template f.template g.template in
    (λ h. rule_same r q p.0 p.1 (t.0 h), λ e. t.1 (ap (λ (x : Rule Ident). x.template) e))
