use Rattle.std.proofs.Common.{◌≡◌, ℕ, ◌<◌, ◌≤◌, List, length, Some, Ok, Err, sym, ◌∙◌, subst, arith}
use Rattle.std.proofs.lemmas.Option.{slice_get_within}
use Rattle.scheme_model.specs.Order.{use_of}
use Rattle.syntax_tree.specs.Macros.{AreLeaves}
use Rattle.syntax_tree.specs.Numbered.{number_of}
use Rattle.syntax_tree.specs.declared.trees.nodes.Tree as number
use Rattle.unit_scopes.specs.Macros.{macro_in}
use Rattle.unit_scopes.specs.Searched.{searched}
use Rattle.unit_scopes.specs.Stepped.{with_use_begun}
use Rattle.unit_scopes.specs.Used.{match_of_use, InstanceFor}
use Rattle.unit_scopes.specs.Outcomes.{At, EndsHere}
use Rattle.feature_requirements.specs.declared.fault.ExpandFault.{ExpandFault}
use Rattle.feature_requirements.specs.declared.fault.ExpandFault.TheVariants as fault
use Rattle.unit_scopes.specs.declared.scope.UnitScope.{UnitScope}
use Rattle.unit_scopes.proofs.OutcomeLaws.{leaves_itself}
use Rattle.unit_scopes.proofs.NodeLaws.{here_err}
use Rattle.unit_scopes.proofs.UseLaws.{macro_there, nothing_found, chosen_in, has_match, has_match_then, leaves_on, over_ends, unmatched_ends, as_built, failed_ends, use_ends, begins_within, one_more, no_locals, leaves_then}
use Rattle.unit_scopes.proofs.scope.UnitScope.apply.Goals as goal

pub returns-then-self-eq-MAX_USES-clause-used : goal.returns-then-self-eq-MAX_USES-clause-used
returns-then-self-eq-MAX_USES-clause-used c = λ known ls s fs keyword m ts tail stands there for held.
    let w = c.args.work.now in let u = c.args.self.now in let at = c.args.at in let r = c.args.region.now in
    subst (λ (x : ExpandFault). EndsHere (InstanceFor w r u.unit u.form.number) w w r u u ls (Err x) (use_of (searched known) at.here fs keyword m ts tail s)) (sym c.fails.ensures)
    (over_ends known at.here fs keyword m ts tail s w r u ls stands (InstanceFor w r u.unit u.form.number) c.if-self-eq-MAX_USES.true)

pub returns-in_err-matched-clause-used : goal.returns-in_err-matched-clause-used
returns-in_err-matched-clause-used c = λ known ls s fs keyword m ts tail stands there for held.
    let w = c.args.work.now in let u = c.args.self.now in let at = c.args.at in let r = c.args.region.now in
    here_err (InstanceFor w r u.unit u.form.number) w w r u u ls c.from_residual.result fault.Memory (use_of (searched known) at.here fs keyword m ts tail s) c.from_residual.ensures.1
    (leaves_itself w r u stands.form.few_nodes)

pub begin_use-requires-clause-scope : goal.begin_use-requires-clause-scope
begin_use-requires-clause-scope c =
    let l = c.requires.usable in let u = c.args.self.now in
    let k = macro_there c.args.work.now u l.layout l.state c.args.at l.keyword l.transformer l.parts l.tail l.stands l.used in
    let inside : k.0.scope < length l.layout = slice_get_within l.layout k.0.scope l.transformer.env k.2.scope in
    let count : length l.layout ≡ length u.env.scopes = l.stands.env.count in
    subst (λ (n : ℕ). n < length u.env.scopes) (sym (c.macro_scope-scope.ensures k.0 k.1)) (omega (arith, inside, count))

pub begin_use-requires-clause-few : goal.begin_use-requires-clause-few
begin_use-requires-clause-few c = let few = c.requires.usable.stands.form.few_uses in omega (arith, few, c.if-self-eq-MAX_USES.false)

pub returns-in_err-number-clause-used : goal.returns-in_err-number-clause-used
returns-in_err-number-clause-used c = λ known ls s fs keyword m ts tail stands there for held.
    let w = c.args.work.now in let u = c.args.self.now in let at = c.args.at in let r = c.args.region.now in
    here_err (InstanceFor w r c.begin_use.new.self.unit c.begin_use.new.self.form.number) w w r u c.begin_use.new.self ls c.from_residual-in_err-number.result fault.Memory (use_of (searched known) at.here fs keyword m ts tail s) c.from_residual-in_err-number.ensures.1
    (leaves_itself w r u stands.form.few_nodes)

pub returns-in_default-clause-used : goal.returns-in_default-clause-used
returns-in_default-clause-used c = λ known ls s fs keyword m ts tail stands there for held.
    let w = c.args.work.now in let u = c.args.self.now in let at = c.args.at in let r = c.args.region.now in
    let scope = c.macro_scope-scope.result in
    let few : u.form.budget.uses < 10000 = let most = stands.form.few_uses in omega (arith, most, c.if-self-eq-MAX_USES.false) in
    let k = macro_there w u ls s at keyword m ts tail stands for in
    let at_scope : At ls scope m.env = subst (λ (n : ℕ). At ls n m.env) (sym (c.macro_scope-scope.ensures k.0 k.1)) k.2.scope in
    let none = nothing_found w m.rules (match_of_use s fs m ts tail) c.in_ok-matched.matched c.in_default.not-Some (c.in_ok-matched.ensures.found ls s fs keyword m ts tail stands for (held (begins_within known w u ls s stands few))) in
    let begun : c.begin_use.new.self ≡ with_use_begun u scope = c.in_ok-number.ensures.begun in
    subst (λ (v : UnitScope). EndsHere (InstanceFor w r u.unit u.form.number) w w r u v ls (Err c.fails_at.result) (use_of (searched known) at.here fs keyword m ts tail s)) (sym begun)
    (subst (λ (x : ExpandFault). EndsHere (InstanceFor w r u.unit u.form.number) w w r u (with_use_begun u scope) ls (Err x) (use_of (searched known) at.here fs keyword m ts tail s))
    (sym c.fails_at.ensures)
    (unmatched_ends known at.here fs keyword m ts tail s w r u ls stands (InstanceFor w r u.unit u.form.number) scope at_scope few at.keyword c.name_of.result for.target c.name_of.ensures.ident c.name_of.ensures.place none))

pub instance-requires-clause-matched : goal.instance-requires-clause-matched
instance-requires-clause-matched c =
    let w = c.args.work.now in let u = c.args.self.now in let at = c.args.at in let r = c.args.region.now in
    has_match_then w r u c.begin_use.new.self at c.in-Some.matched c.macro_scope-scope.result c.in_ok-number.ensures.begun
    (has_match w r u at c.in_ok-matched.matched c.in-Some.matched c.in-Some.is (c.in_ok-matched.ensures.matched r c.requires.named))

pub instance-requires-clause-few : goal.instance-requires-clause-few
instance-requires-clause-few c = subst (λ (v : UnitScope). v.form.budget.nodes ≤ 200000) (sym c.in_ok-number.ensures.begun) c.requires.usable.stands.form.few_nodes

pub returns-in_err-tree-clause-used : goal.returns-in_err-tree-clause-used
returns-in_err-tree-clause-used c = λ known ls s fs keyword m ts tail stands there for held.
    let w = c.args.work.now in let u = c.args.self.now in let at = c.args.at in let r = c.args.region.now in
    let new = c.instance.new.work in let v = c.instance.new.self in
    let scope = c.macro_scope-scope.result in
    let few : u.form.budget.uses < 10000 = let most = stands.form.few_uses in omega (arith, most, c.if-self-eq-MAX_USES.false) in
    let k = macro_there w u ls s at keyword m ts tail stands for in
    let at_scope : At ls scope m.env = subst (λ (n : ℕ). At ls n m.env) (sym (c.macro_scope-scope.ensures k.0 k.1)) k.2.scope in
    let begun : c.begin_use.new.self ≡ with_use_begun u scope = c.in_ok-number.ensures.begun in
    let ch = chosen_in w m.rules (match_of_use s fs m ts tail) c.in_ok-matched.matched c.in-Some.matched c.in-Some.is (c.in_ok-matched.ensures.found ls s fs keyword m ts tail stands for (held (begins_within known w u ls s stands few))) in
    let there_then = subst (λ (x : UnitScope). macro_in x.macros x.form.number at.keyword.meaning ≡ Some k.0) (sym begun) k.1 in
    let e = c.in_err-tree.field-0.0 in
    here_err (InstanceFor new r v.unit v.form.number) w new r u v ls c.from_residual-in_err-tree.result e (use_of (searched known) at.here fs keyword m ts tail s) c.from_residual-in_err-tree.ensures.1
    (failed_ends known at.here fs keyword m ts tail s w r u ls stands (InstanceFor new r v.unit v.form.number) scope at_scope few new v ch.0 e ch.1 c.instance.ensures.grows
    (as_built known at.here fs keyword m ts tail s w r u ls stands (InstanceFor new r v.unit v.form.number) scope at_scope few new c.begin_use.new.self v ch.0 (number_of c.in_ok-number.number) (Err e) begun c.in_ok-number.ensures.number
    (c.in_err-tree.ensures.built k.0 m.rules ch.0 there_then k.2.rules ch.2)))

pub leaf_names-requires : goal.leaf_names-requires
leaf_names-requires c =
    let w = c.args.work.now in let u = c.args.self.now in let at = c.args.at in let r = c.args.region.now in
    let h = has_match w r u at c.in_ok-matched.matched c.in-Some.matched c.in-Some.is (c.in_ok-matched.ensures.matched r c.requires.named) in
    let ns = h.of_rules.1.match.met in (
      ns,
      subst (λ (xs : List number.Tree). AreLeaves c.instance.new.work xs ns) (sym c.as_slice.ensures)
          (leaves_on w c.instance.new.work c.in-Some.matched.literals ns c.instance.ensures.grows.trees h.of_rules.3.match.met),
    )

pub returns-in_err-literals-clause-used : goal.returns-in_err-literals-clause-used
returns-in_err-literals-clause-used c = λ known ls s fs keyword m ts tail stands there for held.
    let w = c.args.work.now in let u = c.args.self.now in let at = c.args.at in let r = c.args.region.now in let new = c.instance.new.work in
    let few : u.form.budget.uses < 10000 = let most = stands.form.few_uses in omega (arith, most, c.if-self-eq-MAX_USES.false) in
    let h = has_match_then w r u c.begin_use.new.self at c.in-Some.matched c.macro_scope-scope.result c.in_ok-number.ensures.begun
    (has_match w r u at c.in_ok-matched.matched c.in-Some.matched c.in-Some.is (c.in_ok-matched.ensures.matched r c.requires.named)) in
    here_err (InstanceFor new r c.instance.new.self.unit c.instance.new.self.form.number) w new r u c.instance.new.self ls c.from_residual-in_err-literals.result fault.Memory (use_of (searched known) at.here fs keyword m ts tail s) c.from_residual-in_err-literals.ensures.1
    (leaves_then w new r u c.begin_use.new.self c.instance.new.self at c.requires.usable c.macro_scope-scope.result c.in-Some.matched (number_of c.in_ok-number.number) c.in_ok-tree.tree few c.in_ok-number.ensures.begun h c.in_ok-tree.ensures.built c.instance.ensures.grows)

pub returns-clause-used : goal.returns-clause-used
returns-clause-used c = λ known ls s fs keyword m ts tail stands there for held.
    let w = c.args.work.now in let u = c.args.self.now in let at = c.args.at in let r = c.args.region.now in
    let new = c.instance.new.work in let v = c.instance.new.self in
    let scope = c.macro_scope-scope.result in
    let few : u.form.budget.uses < 10000 = let most = stands.form.few_uses in omega (arith, most, c.if-self-eq-MAX_USES.false) in
    let k = macro_there w u ls s at keyword m ts tail stands for in
    let at_scope : At ls scope m.env = subst (λ (n : ℕ). At ls n m.env) (sym (c.macro_scope-scope.ensures k.0 k.1)) k.2.scope in
    let begun : c.begin_use.new.self ≡ with_use_begun u scope = c.in_ok-number.ensures.begun in
    let ch = chosen_in w m.rules (match_of_use s fs m ts tail) c.in_ok-matched.matched c.in-Some.matched c.in-Some.is (c.in_ok-matched.ensures.found ls s fs keyword m ts tail stands for (held (begins_within known w u ls s stands few))) in
    let there_then = subst (λ (x : UnitScope). macro_in x.macros x.form.number at.keyword.meaning ≡ Some k.0) (sym begun) k.1 in
    let i = as_built known at.here fs keyword m ts tail s w r u ls stands (InstanceFor new r u.unit u.form.number) scope at_scope few new c.begin_use.new.self v ch.0 (number_of c.in_ok-number.number) (Ok c.in_ok-tree.tree) begun c.in_ok-number.ensures.number
    (c.in_ok-tree.ensures.built k.0 m.rules ch.0 there_then k.2.rules ch.2) in
    let grows = c.instance.ensures.grows in
    let apart = c.told_apart.ensures.idents in let told = c.told_apart.ensures.symbols in
    let leaves = subst (λ (xs : List number.Tree). AreLeaves new xs ch.0.match.met) (sym c.as_slice.ensures) (leaves_on w new c.in-Some.matched.literals ch.0.match.met grows.trees ch.2.match.met) in
    subst (λ (x : UnitScope). EndsHere (InstanceFor new r x.unit x.form.number) w new r u x ls (Ok (record { tree = c.in_ok-tree.tree; met = record { keyword = at.keyword; literals = c.in_ok-literals.literals } })) (use_of (searched known) at.here fs keyword m ts tail s)) (sym i.4)
    (use_ends known at.here fs keyword m ts tail s w r u ls stands (λ _ _. Unit {0}) scope at_scope few new grows apart told i.0 i.5 ch.0 c.in_ok-tree.tree at.keyword c.in_ok-literals.literals ch.1 i.1 i.2 i.3 i.6 for.target (c.in_ok-literals.ensures ch.0.match.met leaves))

pub returns-clause-counted : goal.returns-clause-counted
returns-clause-counted c =
    let w = c.args.work.now in let u = c.args.self.now in let at = c.args.at in let r = c.args.region.now in
    let few : u.form.budget.uses < 10000 = let most = c.requires.usable.stands.form.few_uses in omega (arith, most, c.if-self-eq-MAX_USES.false) in
    let h = has_match_then w r u c.begin_use.new.self at c.in-Some.matched c.macro_scope-scope.result c.in_ok-number.ensures.begun
    (has_match w r u at c.in_ok-matched.matched c.in-Some.matched c.in-Some.is (c.in_ok-matched.ensures.matched r c.requires.named)) in
    one_more w c.instance.new.work r u c.begin_use.new.self c.instance.new.self at c.requires.usable c.macro_scope-scope.result c.in-Some.matched (number_of c.in_ok-number.number) c.in_ok-tree.tree few c.in_ok-number.ensures.begun h c.in_ok-tree.ensures.built

pub returns-clause-locals : goal.returns-clause-locals
returns-clause-locals c =
    let w = c.args.work.now in let u = c.args.self.now in let at = c.args.at in let r = c.args.region.now in
    let few : u.form.budget.uses < 10000 = let most = c.requires.usable.stands.form.few_uses in omega (arith, most, c.if-self-eq-MAX_USES.false) in
    let h = has_match_then w r u c.begin_use.new.self at c.in-Some.matched c.macro_scope-scope.result c.in_ok-number.ensures.begun
    (has_match w r u at c.in_ok-matched.matched c.in-Some.matched c.in-Some.is (c.in_ok-matched.ensures.matched r c.requires.named)) in
    no_locals w c.instance.new.work r u c.begin_use.new.self c.instance.new.self at c.requires.usable c.macro_scope-scope.result c.in-Some.matched (number_of c.in_ok-number.number) c.in_ok-tree.tree few c.in_ok-number.ensures.begun h c.in_ok-tree.ensures.built

pub returns-in_err-number-clause-scopes : goal.returns-in_err-number-clause-scopes
returns-in_err-number-clause-scopes c = c.begin_use.ensures.scopes

pub returns-in_err-tree-clause-scopes : goal.returns-in_err-tree-clause-scopes
returns-in_err-tree-clause-scopes c = c.instance.ensures.scopes ∙ c.begin_use.ensures.scopes

pub returns-in_err-literals-clause-scopes : goal.returns-in_err-literals-clause-scopes
returns-in_err-literals-clause-scopes c = c.instance.ensures.scopes ∙ c.begin_use.ensures.scopes

pub returns-clause-scopes : goal.returns-clause-scopes
returns-clause-scopes c = c.instance.ensures.scopes ∙ c.begin_use.ensures.scopes

pub returns-in_err-number-clause-trace : goal.returns-in_err-number-clause-trace
returns-in_err-number-clause-trace c = c.begin_use.ensures.trace

pub returns-in_err-tree-clause-trace : goal.returns-in_err-tree-clause-trace
returns-in_err-tree-clause-trace c = c.instance.ensures.trace ∙ c.begin_use.ensures.trace

pub returns-in_err-literals-clause-trace : goal.returns-in_err-literals-clause-trace
returns-in_err-literals-clause-trace c = c.instance.ensures.trace ∙ c.begin_use.ensures.trace

pub returns-clause-trace : goal.returns-clause-trace
returns-clause-trace c = c.instance.ensures.trace ∙ c.begin_use.ensures.trace

pub returns-in_err-number-clause-macros : goal.returns-in_err-number-clause-macros
returns-in_err-number-clause-macros c = c.begin_use.ensures.macros

pub returns-in_err-tree-clause-macros : goal.returns-in_err-tree-clause-macros
returns-in_err-tree-clause-macros c = c.instance.ensures.macros ∙ c.begin_use.ensures.macros

pub returns-in_err-literals-clause-macros : goal.returns-in_err-literals-clause-macros
returns-in_err-literals-clause-macros c = c.instance.ensures.macros ∙ c.begin_use.ensures.macros

pub returns-clause-macros : goal.returns-clause-macros
returns-clause-macros c = c.instance.ensures.macros ∙ c.begin_use.ensures.macros
