use Rattle.std.proofs.Common.{◌≡◌, subst, sym, ap, ◌∙◌, refl, set, slice_get, Some, true}
use Rattle.std.proofs.lemmas.Option.{same_Some}
use Rattle.scope_env.specs.Environment.{Environment, Scope, with_bound}
use Rattle.scope_env.specs.Kept.{environment_of, scope_of}
use Rattle.scope_env.specs.Marks.{IsKept, marked_for}
use Rattle.scope_env.proofs.MarkLaws.{kept_bound, same_marks}
use Rattle.scope_env.proofs.Changes.{bound_seen, unbound_seen, on_err}
use Rattle.scope_env.proofs.Fields.{read_there, scope_there}
use Rattle.scope_env.proofs.env.Env.bind.Goals as goal
use Rattle.scope_env.proofs.env.Env.bind.Goals.{After-from_residual-in_err-insert, In_ok-insert}

kept : (c : After-from_residual-in_err-insert) → environment_of (set c.self.inside.scopes.items c.args.scope (record { parent = c.index_mut-scope.result.now.parent; bound = c.insert.new.self })) c.self.inside.uses.entries c.self.inside.roots.entries
    ≡ environment_of c.self.inside.scopes.items c.self.inside.uses.entries c.self.inside.roots.entries
kept c =
    unbound_seen c.self.inside.scopes.items c.self.inside.uses.entries c.self.inside.roots.entries c.args.scope c.index_mut-scope.result.now
    (record { parent = c.index_mut-scope.result.now.parent; bound = c.insert.new.self }) (read_there c.self.inside.scopes.items c.self.inside.uses c.self.inside.roots c.args.self.now c.self.view_is c.args.scope c.index_mut-scope.result.now c.requires c.index_mut-scope.ensures.value) refl c.in_err-insert.ensures.err

put : (c : In_ok-insert) → environment_of (set c.self.inside.scopes.items c.args.scope (record { parent = c.index_mut-scope.result.now.parent; bound = c.insert.new.self })) c.self.inside.uses.entries c.self.inside.roots.entries
    ≡ with_bound (environment_of c.self.inside.scopes.items c.self.inside.uses.entries c.self.inside.roots.entries) c.args.scope c.args.ident c.args.meaning
put c =
    bound_seen c.self.inside.scopes.items c.self.inside.uses.entries c.self.inside.roots.entries c.args.scope c.args.ident c.args.meaning c.index_mut-scope.result.now
    (record { parent = c.index_mut-scope.result.now.parent; bound = c.insert.new.self }) (read_there c.self.inside.scopes.items c.self.inside.uses c.self.inside.roots c.args.self.now c.self.view_is c.args.scope c.index_mut-scope.result.now c.requires c.index_mut-scope.ensures.value) refl c.in_ok-insert.ensures.updates

pub invariant_of-self-in_err-insert : goal.invariant_of-self-in_err-insert
invariant_of-self-in_err-insert c =
    let before = environment_of c.self.inside.scopes.items c.self.inside.uses.entries c.self.inside.roots.entries in
    let l = c.mark.new.locals in
    let o = c.mark.new.owns in
    subst (λ (e : Environment). IsKept e l o) (sym (kept c)) (same_marks before c.self.inside.locals l c.self.inside.owns o c.mark.ensures.kept c.self.invariant)

pub invariant_of-self-2 : goal.invariant_of-self-2
invariant_of-self-2 c =
    let before = environment_of c.self.inside.scopes.items c.self.inside.uses.entries c.self.inside.roots.entries in
    let l = c.mark.new.locals in
    let o = c.mark.new.owns in
    let bare = same_marks before c.self.inside.locals l c.self.inside.owns o c.mark.ensures.kept c.self.invariant in
    let there = read_there c.self.inside.scopes.items c.self.inside.uses c.self.inside.roots c.args.self.now c.self.view_is c.args.scope c.index.result.now c.requires c.index.ensures in
    let seen = scope_there c.self.inside.scopes.items c.self.inside.uses c.self.inside.roots before refl c.args.scope c.index.result.now there in
    let is_marked : (s : Scope) → slice_get before.scopes c.args.scope ≡ Some s → marked_for l o s.parent c.args.ident ≡ true =
    λ s at. ap (λ (t : Scope). marked_for l o t.parent c.args.ident) (same_Some s (scope_of c.index.result.now) (sym at ∙ seen)) ∙ c.in_ok-mark.ensures.marked in
    subst (λ (e : Environment). IsKept e l o) (sym (put c)) (kept_bound l o before c.args.scope c.args.ident c.args.meaning bare is_marked)

pub returns-in_err-insert-clause-err : goal.returns-in_err-insert-clause-err
returns-in_err-insert-clause-err c = on_err c.from_residual-in_err-insert.result (kept c ∙ c.self.view_is)

pub returns-clause-bound : goal.returns-clause-bound
returns-clause-bound c = put c ∙ ap (λ (e : Environment). with_bound e c.args.scope c.args.ident c.args.meaning) c.self.view_is
