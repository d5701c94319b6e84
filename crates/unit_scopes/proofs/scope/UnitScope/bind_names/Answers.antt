use Rattle.std.proofs.Common.{◌≡◌, ◌+◌, [], ◌∷◌, ◌++◌, length, take, get_or, None, sym, ap, ◌∙◌, arith}
use Rattle.scope_env.specs.Environment.{with_child, with_bound}
use Rattle.syntax_tree.specs.declared.meaning.Meaning.TheVariants.{Local}
use Rattle.core_forms.specs.declared.shape.NamePart.{NamePart}
use Rattle.unit_scopes.specs.declared.scope.UnitScope.{UnitScope}
use Rattle.unit_scopes.specs.Binds.{local_binder, local_binders, with_locals}
use Rattle.unit_scopes.proofs.BindLaws.{binders_more, names_more, child_count, scopes_stay}
use Rattle.unit_scopes.proofs.scope.UnitScope.bind_names.Goals as goal

pub bind-requires : goal.bind-requires
bind-requires c =
    let old = c.args.self.now in
    let count : length c.take_local-binder.new.self.env.scopes ≡ length old.env.scopes + 1 =
    ap (λ (s : UnitScope). length s.env.scopes) c.take_local-binder.ensures.taken ∙ ap (λ (s : UnitScope). length s.env.scopes) c.loop-name.invariant.taken
    ∙ scopes_stay (with_child old.env c.args.scope) (length old.env.scopes) old.form.budget.locals (take c.loop-name.name-index c.args.names.now) ∙ child_count old.env c.args.scope in
    let number : c.in_ok-inner.inner ≡ length old.env.scopes = c.in_ok-inner.ensures.ok in
    omega arith

pub loop-name-preserved : goal.loop-name-preserved
loop-name-preserved c =
    let d : NamePart = record { ident = 0; occ = None } in
    let old = c.args.self.now in
    let n = old.form.budget.locals in
    let k = c.loop-name.name-index in
    let x = get_or c.args.names.now k d in
    let at = length old.env.scopes in
    let number : c.in_ok-inner.inner ≡ at = c.in_ok-inner.ensures.ok in
    let e : n + k + 1 ≡ n + (k + 1) = omega arith in
    let bound : c.bind.new.self ≡ with_bound c.loop-name.self.env at x.ident (Local c.loop-name.self.form.budget.locals) =
    c.in_ok-bind.ensures.bound ∙ (λ j. with_bound (c.take_local-binder.ensures.taken j).env (number j) x.ident (Local (c.take_local-binder.ensures.binder j).number)) in
    record {
      taken =
          (λ j. record (c.take_local-binder.ensures.taken j) { env = bound j })
          ∙ ap (λ (s : UnitScope). record (with_locals s (s.form.budget.locals + 1)) { env = with_bound s.env at x.ident (Local s.form.budget.locals) }) c.loop-name.invariant.taken
          ∙ (λ j. record (with_locals old (e j)) { env = sym (names_more (with_child old.env c.args.scope) at n c.args.names.now k d c.loop-name-test.true) j });
      bound =
          c.in_ok-push.ensures.items ∙ (λ j. c.loop-name.invariant.bound j ++ c.take_local-binder.ensures.binder j ∷ [])
          ∙ ap (λ (s : UnitScope). local_binders n (take k c.args.names.now) ++ local_binder s.form.budget.locals x ∷ []) c.loop-name.invariant.taken
          ∙ sym (binders_more n c.args.names.now k d c.loop-name-test.true);
    }
