use Rattle.std.proofs.Common.{◌≡◌, Option, Some, None, sym, ap, ◌∙◌}
use Rattle.std.specs.FinMap.{get}
use Rattle.scope_env.specs.declared.env.Bound.{Bound}
use Rattle.scope_env.specs.Environment.{with_added}
use Rattle.scope_env.specs.Kept.{scope_of}
use Rattle.scope_env.specs.Resolved.{bound_at}
use Rattle.scope_env.proofs.Added.{added_here, added_elsewhere, added_beside, nothing_added}
use Rattle.scope_env.proofs.Fields.{read_there, scope_there, bound_is, within_there}
use Rattle.scope_env.proofs.env.Env.here.Goals as goal
use Rattle.scope_env.proofs.env.Env.here.Goals.{in-Some+else-added-scope, else-added-scope-via-then-added-scope+else-added-ident, else-added-scope-via-else-added-scope, in_default}

pub returns-then-added-ident : goal.returns-then-added-ident
returns-then-added-ident c =
    let env = c.args.self.now in
    let b = c.in-Some.added in
    let is : c.args.added ≡ Some b = cc in
    let s = within_there env c.args.scope c.requires in
    sym (ap (λ (o : Option Bound). bound_at (with_added env o) c.args.scope c.args.ident) is
    ∙ added_here env b c.args.scope c.args.ident s.0 s.1 c.if-added-scope.true c.if-added-ident.true)

pub returns : goal.returns
returns c =
    let env = c.args.self.now in
    let there = read_there c.self.inside.scopes.items c.self.inside.uses c.self.inside.roots env c.self.view_is c.args.scope c.index.result.now c.requires c.index.ensures in
    let s = scope_of c.index.result.now in
    let at = scope_there c.self.inside.scopes.items c.self.inside.uses c.self.inside.roots env c.self.view_is c.args.scope c.index.result.now there in
    let bound : get s.bound c.args.ident ≡ c.copied.result =
    bound_is c.self.inside.scopes.items c.self.inside.uses c.self.inside.roots env c.self.view_is c.args.scope c.args.ident c.index.result.now c.copied.result (c.copied.ensures ∙ c.get.ensures.value) in
    sym bound
    ∙ elim c.match-added.branch [
      | in-Some+else-added-scope w ↦
          let b = w.in-Some.added in
          let is : c.args.added ≡ Some b = cc in
          sym (ap (λ (o : Option Bound). bound_at (with_added env o) c.args.scope c.args.ident) is
          ∙ elim w.else-added-scope.branch [
            | else-added-scope-via-then-added-scope+else-added-ident x ↦
                added_beside env b c.args.scope c.args.ident s at x.if-added-scope.true (λ e. x.if-added-ident.false (sym e))
            | else-added-scope-via-else-added-scope x ↦
                added_elsewhere env b c.args.scope c.args.ident s at (λ e. x.if-added-scope.false (sym e))
          ])
      | in_default w ↦
          let is : c.args.added ≡ None = cc in
          sym (ap (λ (o : Option Bound). bound_at (with_added env o) c.args.scope c.args.ident) is ∙ nothing_added env c.args.scope c.args.ident s at)
    ]
