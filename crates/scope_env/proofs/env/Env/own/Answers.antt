use Rattle.std.proofs.Common.{subst, sym, ◌∙◌}
use Rattle.scope_env.specs.Environment.{Environment, IsSound}
use Rattle.scope_env.specs.Resolved.{own}
use Rattle.scope_env.specs.Marks.{IsKept}
use Rattle.scope_env.specs.Environment.{with_added}
use Rattle.scope_env.proofs.MarkLaws.{no_own}
use Rattle.scope_env.proofs.Fields.{own_none, own_is, root_within}
use Rattle.scope_env.proofs.env.Env.own.Goals as goal

pub returns-in_err-root : goal.returns-in_err-root
returns-in_err-root c =
    c.from_residual.ensures
    ∙ sym (own_none c.self.inside.scopes.items c.self.inside.uses c.self.inside.roots c.args.self.now c.self.view_is c.args.added c.args.unit c.args.ident c.in_err-root.ensures.value)

pub here-requires : goal.here-requires
here-requires c =
    root_within c.self.inside.scopes.items c.self.inside.uses c.self.inside.roots c.args.self.now c.self.view_is (subst (λ (e : Environment). IsSound e) c.self.view_is c.self.invariant.sound) c.args.unit c.in_ok-root.root.now c.in_ok-root.ensures.value

pub returns : goal.returns
returns c =
    c.here.ensures
    ∙ sym (own_is c.self.inside.scopes.items c.self.inside.uses c.self.inside.roots c.args.self.now c.self.view_is c.args.added c.args.unit c.in_ok-root.root.now c.args.ident c.in_ok-root.ensures.value)

pub returns-then-is_unmarked : goal.returns-then-is_unmarked
returns-then-is_unmarked c =
    let env = c.args.self.now in
    let l = c.self.inside.locals in
    let o = c.self.inside.owns in
    let kept = subst (λ (e : Environment). IsKept e l o) c.self.view_is c.self.invariant in
    let u = c.is_unmarked.ensures c.if-is_unmarked.true in
    sym ((λ j. own (with_added env (u.0 j)) c.args.unit c.args.ident) ∙ no_own l o env kept c.args.ident u.1 c.args.unit)
