use Rattle.std.proofs.Common.{◌≡◌, ◌+◌, [], ◌∷◌, ◌++◌, take, get_or, None, sym, ap, ◌∙◌, arith}
use Rattle.core_forms.specs.declared.shape.NamePart.{NamePart}
use Rattle.unit_scopes.specs.declared.scope.UnitScope.{UnitScope}
use Rattle.unit_scopes.specs.Binds.{local_binder, local_binders, with_locals}
use Rattle.unit_scopes.proofs.BindLaws.{binders_more}
use Rattle.unit_scopes.proofs.scope.UnitScope.take_locals.Goals as goal

pub loop-name-preserved : goal.loop-name-preserved
loop-name-preserved c =
    let d : NamePart = record { ident = 0; occ = None } in
    let n = c.args.self.now.form.budget.locals in
    let k = c.loop-name.name-index in
    let e : n + k + 1 ≡ n + (k + 1) = omega arith in
    record {
      taken =
          c.take_local-binder.ensures.taken ∙ ap (λ (s : UnitScope). with_locals s (s.form.budget.locals + 1)) c.loop-name.invariant.taken
          ∙ ap (with_locals c.args.self.now) e;
      bound =
          c.in_ok-push.ensures.items ∙ (λ j. c.loop-name.invariant.bound j ++ c.take_local-binder.ensures.binder j ∷ [])
          ∙ ap (λ (s : UnitScope). local_binders n (take k c.args.names.now) ++ local_binder s.form.budget.locals (get_or c.args.names.now k d) ∷ []) c.loop-name.invariant.taken
          ∙ sym (binders_more n c.args.names.now k d c.loop-name-test.true);
    }
