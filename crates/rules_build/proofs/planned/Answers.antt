use Rattle.std.proofs.Common.{ℕ, List, refl, sym, ap, subst, arith}
use Rattle.std.specs.Prelude.{is_some}
use Rattle.scheme_model.specs.Identifiers.{Number}
use Rattle.syntax_tree.specs.Macros.{AreRolesOf, AreRules}
use Rattle.syntax_tree.specs.declared.rules.Rule.{Rule as CodeRule}
use Rattle.syntax_tree.specs.declared.rules.Binding.{Binding as CodeBinding}
use Rattle.rules_build.specs.declared.values.Bound.{Bound}
use Rattle.rules_build.specs.Values.{AreManyBound, AreBound}
use Rattle.rules_build.proofs.WholeLaws.{walk_fails}
use Rattle.rules_build.proofs.WholeSteps.{tells, all_many_bound, template_there, none_is, gone_is, plan_stands, planned_many, planned_large, planned_deep, planned_all}
use Rattle.rules_build.proofs.planned.Goals as goal

pub bounds-as_slice-matched : goal.bounds-as_slice-matched
bounds-as_slice-matched c =
    let q = c.requires.matched.1 in
    let w = c.args.work.now in
    let there = template_there w c.as_slice-3.result.now q.0.rules c.args.matched.now.rule (record { pattern = record { number = 0 }; template = record { number = 0 } }) q.1.rule (subst (λ (ns : List CodeRule). AreRules w ns q.0.rules) (sym c.as_slice-3.ensures) q.2.rules) q.3.rule in
    there.0

pub depth-requires : goal.depth-requires
depth-requires c =
    let q = c.requires.matched.1 in
    let w = c.args.work.now in
    let there = template_there w c.as_slice-3.result.now q.0.rules c.args.matched.now.rule _ q.1.rule (subst (λ (ns : List CodeRule). AreRules w ns q.0.rules) (sym c.as_slice-3.ensures) q.2.rules) q.3.rule in
    (q.1.rule.template, there.1)

pub tree-requires-clause-template : goal.tree-requires-clause-template
tree-requires-clause-template c =
    let q = c.requires.matched.1 in
    let w = c.args.work.now in
    let there = template_there w c.as_slice-3.result.now q.0.rules c.args.matched.now.rule _ q.1.rule (subst (λ (ns : List CodeRule). AreRules w ns q.0.rules) (sym c.as_slice-3.ensures) q.2.rules) q.3.rule in
    let deep = c.depth.ensures q.1.rule.template there.1 in
    (q.1.rule.template, there.1, omega (arith, deep))

pub tree-requires-clause-bounds : goal.tree-requires-clause-bounds
tree-requires-clause-bounds c =
    let q = c.requires.matched.1 in
    let w = c.args.work.now in
    let are = all_many_bound w c.requires.matched.0 c.args.matched.now.bindings q.1.match.bindings q.3.match.bindings q.4 in
    let bound = subst (λ (bs : List Bound). AreBound w c.requires.matched.0 bs q.1.match.bindings) (sym c.deref-2.ensures.value) (c.in_ok-bounds.ensures w c.requires.matched.0 q.1.match.bindings (subst (λ (bs : List CodeBinding). AreManyBound w c.requires.matched.0 bs q.1.match.bindings) (sym c.as_slice-2.ensures) are)) in
    (c.requires.matched.0, q.1.match.bindings, bound)

pub returns-in_err-plan : goal.returns-in_err-plan
returns-in_err-plan c = λ region k r m rules_for matched named.
    let w = c.args.work.now in
    let rules = c.args.rules.now in
    let of = subst (λ (ls : List ℕ). AreRolesOf c.in_ok-roles.roles rules.ellipsis ls) c.as_slice.ensures c.in_ok-roles.ensures in
    let told = tells w.symbols c.in_ok-roles.roles rules r rules.ellipsis rules.literals refl refl of rules_for.ellipsis rules_for.literals in
    let are = all_many_bound w region c.args.matched.now.bindings m.match.bindings matched.match.bindings named in
    let bound = subst (λ (bs : List Bound). AreBound w region bs m.match.bindings) (sym c.deref-2.ensures.value) (c.in_ok-bounds.ensures w region m.match.bindings (subst (λ (bs : List CodeBinding). AreManyBound w region bs m.match.bindings) (sym c.as_slice-2.ensures) are)) in
    let there = template_there w c.as_slice-3.result.now r.rules c.args.matched.now.rule _ m.rule (subst (λ (ns : List CodeRule). AreRules w ns r.rules) (sym c.as_slice-3.ensures) rules_for.rules) matched.rule in
    walk_fails w region r k m c.args.left c.from_residual-in_err-plan.result c.in_err-plan.field-0.0 c.from_residual-in_err-plan.ensures.1 (c.in_err-plan.ensures r region k m.rule.template m.match.bindings told there.1 bound)

pub returns-in_default : goal.returns-in_default
returns-in_default c = λ region k r m rules_for matched named.
    let w = c.args.work.now in
    let rules = c.args.rules.now in
    let of = subst (λ (ls : List ℕ). AreRolesOf c.in_ok-roles.roles rules.ellipsis ls) c.as_slice.ensures c.in_ok-roles.ensures in
    let told = tells w.symbols c.in_ok-roles.roles rules r rules.ellipsis rules.literals refl refl of rules_for.ellipsis rules_for.literals in
    let are = all_many_bound w region c.args.matched.now.bindings m.match.bindings matched.match.bindings named in
    let bound = subst (λ (bs : List Bound). AreBound w region bs m.match.bindings) (sym c.deref-2.ensures.value) (c.in_ok-bounds.ensures w region m.match.bindings (subst (λ (bs : List CodeBinding). AreManyBound w region bs m.match.bindings) (sym c.as_slice-2.ensures) are)) in
    let there = template_there w c.as_slice-3.result.now r.rules c.args.matched.now.rule _ m.rule (subst (λ (ns : List CodeRule). AreRules w ns r.rules) (sym c.as_slice-3.ensures) rules_for.rules) matched.rule in
    let h = c.in_ok-plan.ensures r region k m.rule.template m.match.bindings told there.1 bound in
    planned_many w region r k m c.args.left c.tree.new.room c.in_ok-plan.plan h (none_is c.tree.new.room c.in_default.not-Some)

pub take_size-requires : goal.take_size-requires
take_size-requires c =
    let q = c.requires.matched.1 in
    let w = c.args.work.now in
    let rules = c.args.rules.now in
    let of = subst (λ (ls : List ℕ). AreRolesOf c.in_ok-roles.roles rules.ellipsis ls) c.as_slice.ensures c.in_ok-roles.ensures in
    let told = tells w.symbols c.in_ok-roles.roles rules q.0 rules.ellipsis rules.literals refl refl of q.2.ellipsis q.2.literals in
    let are = all_many_bound w c.requires.matched.0 c.args.matched.now.bindings q.1.match.bindings q.3.match.bindings q.4 in
    let bound = subst (λ (bs : List Bound). AreBound w c.requires.matched.0 bs q.1.match.bindings) (sym c.deref-2.ensures.value) (c.in_ok-bounds.ensures w c.requires.matched.0 q.1.match.bindings (subst (λ (bs : List CodeBinding). AreManyBound w c.requires.matched.0 bs q.1.match.bindings) (sym c.as_slice-2.ensures) are)) in
    let there = template_there w c.as_slice-3.result.now q.0.rules c.args.matched.now.rule _ q.1.rule (subst (λ (ns : List CodeRule). AreRules w ns q.0.rules) (sym c.as_slice-3.ensures) q.2.rules) q.3.rule in
    let zero : Number = record { unit = 0; form = 0; count = 0 } in
    let h = c.in_ok-plan.ensures q.0 c.requires.matched.0 zero q.1.rule.template q.1.match.bindings told there.1 bound in
    plan_stands w c.requires.matched.0 q.0 zero q.1 c.args.left c.tree.new.room c.in_ok-plan.plan h (ap is_some c.in-Some.is)

pub returns-then-is_none : goal.returns-then-is_none
returns-then-is_none c = λ region k r m rules_for matched named.
    let w = c.args.work.now in
    let rules = c.args.rules.now in
    let of = subst (λ (ls : List ℕ). AreRolesOf c.in_ok-roles.roles rules.ellipsis ls) c.as_slice.ensures c.in_ok-roles.ensures in
    let told = tells w.symbols c.in_ok-roles.roles rules r rules.ellipsis rules.literals refl refl of rules_for.ellipsis rules_for.literals in
    let are = all_many_bound w region c.args.matched.now.bindings m.match.bindings matched.match.bindings named in
    let bound = subst (λ (bs : List Bound). AreBound w region bs m.match.bindings) (sym c.deref-2.ensures.value) (c.in_ok-bounds.ensures w region m.match.bindings (subst (λ (bs : List CodeBinding). AreManyBound w region bs m.match.bindings) (sym c.as_slice-2.ensures) are)) in
    let there = template_there w c.as_slice-3.result.now r.rules c.args.matched.now.rule _ m.rule (subst (λ (ns : List CodeRule). AreRules w ns r.rules) (sym c.as_slice-3.ensures) rules_for.rules) matched.rule in
    let h = c.in_ok-plan.ensures r region k m.rule.template m.match.bindings told there.1 bound in
    planned_large w region r k m c.args.left c.tree.new.room c.in-Some.rest c.in_ok-plan.plan c.take_size.new.room h c.in-Some.is (gone_is c.take_size.new.room c.if-is_none.ensures) (λ d is. c.take_size.ensures region k d is)

pub fits-requires : goal.fits-requires
fits-requires c =
    let q = c.requires.matched.1 in
    let w = c.args.work.now in
    let rules = c.args.rules.now in
    let of = subst (λ (ls : List ℕ). AreRolesOf c.in_ok-roles.roles rules.ellipsis ls) c.as_slice.ensures c.in_ok-roles.ensures in
    let told = tells w.symbols c.in_ok-roles.roles rules q.0 rules.ellipsis rules.literals refl refl of q.2.ellipsis q.2.literals in
    let are = all_many_bound w c.requires.matched.0 c.args.matched.now.bindings q.1.match.bindings q.3.match.bindings q.4 in
    let bound = subst (λ (bs : List Bound). AreBound w c.requires.matched.0 bs q.1.match.bindings) (sym c.deref-2.ensures.value) (c.in_ok-bounds.ensures w c.requires.matched.0 q.1.match.bindings (subst (λ (bs : List CodeBinding). AreManyBound w c.requires.matched.0 bs q.1.match.bindings) (sym c.as_slice-2.ensures) are)) in
    let there = template_there w c.as_slice-3.result.now q.0.rules c.args.matched.now.rule _ q.1.rule (subst (λ (ns : List CodeRule). AreRules w ns q.0.rules) (sym c.as_slice-3.ensures) q.2.rules) q.3.rule in
    let zero : Number = record { unit = 0; form = 0; count = 0 } in
    let h = c.in_ok-plan.ensures q.0 c.requires.matched.0 zero q.1.rule.template q.1.match.bindings told there.1 bound in
    plan_stands w c.requires.matched.0 q.0 zero q.1 c.args.left c.tree.new.room c.in_ok-plan.plan h (ap is_some c.in-Some.is)

pub returns-then-not-fits : goal.returns-then-not-fits
returns-then-not-fits c = λ region k r m rules_for matched named.
    let w = c.args.work.now in
    let rules = c.args.rules.now in
    let of = subst (λ (ls : List ℕ). AreRolesOf c.in_ok-roles.roles rules.ellipsis ls) c.as_slice.ensures c.in_ok-roles.ensures in
    let told = tells w.symbols c.in_ok-roles.roles rules r rules.ellipsis rules.literals refl refl of rules_for.ellipsis rules_for.literals in
    let are = all_many_bound w region c.args.matched.now.bindings m.match.bindings matched.match.bindings named in
    let bound = subst (λ (bs : List Bound). AreBound w region bs m.match.bindings) (sym c.deref-2.ensures.value) (c.in_ok-bounds.ensures w region m.match.bindings (subst (λ (bs : List CodeBinding). AreManyBound w region bs m.match.bindings) (sym c.as_slice-2.ensures) are)) in
    let there = template_there w c.as_slice-3.result.now r.rules c.args.matched.now.rule _ m.rule (subst (λ (ns : List CodeRule). AreRules w ns r.rules) (sym c.as_slice-3.ensures) rules_for.rules) matched.rule in
    let h = c.in_ok-plan.ensures r region k m.rule.template m.match.bindings told there.1 bound in
    planned_deep w region r k m c.args.left c.tree.new.room c.in-Some.rest c.in_ok-plan.plan c.take_size.new.room c.fits.result h c.in-Some.is c.if-is_none.ensures c.if-not-fits.true (λ d is. c.take_size.ensures region k d is) (λ d is. c.fits.ensures region k d is)

pub returns : goal.returns
returns c = λ region k r m rules_for matched named.
    let w = c.args.work.now in
    let rules = c.args.rules.now in
    let of = subst (λ (ls : List ℕ). AreRolesOf c.in_ok-roles.roles rules.ellipsis ls) c.as_slice.ensures c.in_ok-roles.ensures in
    let told = tells w.symbols c.in_ok-roles.roles rules r rules.ellipsis rules.literals refl refl of rules_for.ellipsis rules_for.literals in
    let are = all_many_bound w region c.args.matched.now.bindings m.match.bindings matched.match.bindings named in
    let bound = subst (λ (bs : List Bound). AreBound w region bs m.match.bindings) (sym c.deref-2.ensures.value) (c.in_ok-bounds.ensures w region m.match.bindings (subst (λ (bs : List CodeBinding). AreManyBound w region bs m.match.bindings) (sym c.as_slice-2.ensures) are)) in
    let there = template_there w c.as_slice-3.result.now r.rules c.args.matched.now.rule _ m.rule (subst (λ (ns : List CodeRule). AreRules w ns r.rules) (sym c.as_slice-3.ensures) rules_for.rules) matched.rule in
    let h = c.in_ok-plan.ensures r region k m.rule.template m.match.bindings told there.1 bound in
    planned_all w region r k m c.args.left c.tree.new.room c.in-Some.rest c.in_ok-plan.plan c.take_size.new.room c.fits.result h c.in-Some.is c.if-is_none.ensures c.if-not-fits.false (λ d is. c.take_size.ensures region k d is) (λ d is. c.fits.ensures region k d is)
