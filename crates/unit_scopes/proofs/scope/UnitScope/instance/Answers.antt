use Rattle.std.proofs.Common.{◌-◌, Err, refl, sym, ap, ◌∙◌, subst, arith}
use Rattle.syntax_tree.specs.Macros.{RulesFor}
use Rattle.syntax_tree.specs.Numbered.{number_of}
use Rattle.syntax_tree.specs.Bound.{IsMatched}
use Rattle.rules_build.specs.Builds.{instance}
use Rattle.unit_scopes.specs.Used.{Instances}
use Rattle.feature_requirements.specs.declared.fault.ExpandFault.{ExpandFault}
use Rattle.unit_scopes.specs.declared.macros.Macro.{Macro}
use Rattle.unit_scopes.proofs.UseLaws.{copied_is, copied_some, left_within, instance_built, instance_fails}
use Rattle.unit_scopes.proofs.scope.UnitScope.instance.Goals as goal

pub returns-in_default-clause-built : goal.returns-in_default-clause-built
returns-in_default-clause-built c = λ k r m is rules matched. copied_some c.meaning.result k (c.meaning.ensures ∙ is) c.in_default.not-Some

pub returns-in_default-clause-grows : goal.returns-in_default-clause-grows
returns-in_default-clause-grows c = copied_some c.meaning.result c.requires.matched.used (c.meaning.ensures ∙ c.requires.matched.macro) c.in_default.not-Some

pub build-built-requires-clause-matched : goal.build-built-requires-clause-matched
build-built-requires-clause-matched c =
    let h = c.requires.matched in
    let same = copied_is c.meaning.result c.in-Some.used h.used c.in-Some.is (c.meaning.ensures ∙ h.macro) in
    subst (λ (x : Macro). IsMatched c.args.work.now c.args.region.now x.rules c.args.matched.now) same h.of_rules

pub overflow_sub-self : goal.overflow_sub-self
overflow_sub-self c =
    let h = c.requires.matched in let w = c.args.work.now in
    let same = copied_is c.meaning.result c.in-Some.used h.used c.in-Some.is (c.meaning.ensures ∙ h.macro) in
    let rules = subst (λ (x : Macro). RulesFor w x.rules h.of_rules.0) same h.of_rules.2 in
    let built = c.build-built.ensures.tree h.of_rules.0 h.of_rules.1 rules h.of_rules.3 h.of_rules.4 in
    let left = left_within c.build-built.new.work (200000 - c.args.self.now.form.budget.nodes) c.build-built.new.left (instance h.of_rules.0 (number_of c.args.number) h.of_rules.1 (200000 - c.args.self.now.form.budget.nodes)) c.build-built.result built in
    omega (arith, left)

pub returns-in-Ok-clause-built : goal.returns-in-Ok-clause-built
returns-in-Ok-clause-built c = λ k r m is rules matched.
    let w = c.args.work.now in let u = c.args.self.now in
    let same = copied_is c.meaning.result c.in-Some.used k c.in-Some.is (c.meaning.ensures ∙ is) in
    let for = subst (λ (x : Macro). RulesFor w x.rules r) same rules in
    let named = c.requires.matched.named m.match.bindings in
    instance_built w c.build-built.new.work c.args.region.now u c.args.at.here (instance r (number_of c.args.number) m (200000 - u.form.budget.nodes)) c.build-built.new.left c.in-Ok.tree c.requires.few
    (c.in-Ok.ensures.tree r m for matched named) (c.in-Ok.ensures.nodes r m for matched named) c.in-Ok.ensures.region

pub returns-in-Ok-clause-grows : goal.returns-in-Ok-clause-grows
returns-in-Ok-clause-grows c = let e = c.build-built.ensures in record { trees = e.keeps; names = e.names.keeps; regions = e.regions; added = e.added }

pub returns-in-Err-clause-built : goal.returns-in-Err-clause-built
returns-in-Err-clause-built c = λ k r m is rules matched.
    let w = c.args.work.now in let u = c.args.self.now in let here = c.args.at.here in
    let same = copied_is c.meaning.result c.in-Some.used k c.in-Some.is (c.meaning.ensures ∙ is) in
    let for = subst (λ (x : Macro). RulesFor w x.rules r) same rules in
    let named = c.requires.matched.named m.match.bindings in
    let left = c.build-built.new.left in
    let v = record u { form = record u.form { budget = record u.form.budget { nodes = 200000 - left } } } in
    let s = instance r (number_of c.args.number) m (200000 - u.form.budget.nodes) in
    subst (λ (x : ExpandFault). Instances w c.build-built.new.work c.args.region.now u v here s (Err x)) (sym c.build_fails.ensures)
    (instance_fails w c.build-built.new.work c.args.region.now u v here s left c.in-Err.fault c.requires.few refl
    (c.in-Err.ensures.tree r m for matched named) (c.in-Err.ensures.nodes r m for matched named) (λ e. c.in-Err.ensures.full (ap Err e)))

pub returns-in-Err-clause-grows : goal.returns-in-Err-clause-grows
returns-in-Err-clause-grows c = let e = c.build-built.ensures in record { trees = e.keeps; names = e.names.keeps; regions = e.regions; added = e.added }
