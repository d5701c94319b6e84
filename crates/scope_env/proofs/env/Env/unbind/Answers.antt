use Rattle.std.proofs.Common.{None, sym, ap, ◌∙◌, refl, subst}
use Rattle.scope_env.specs.Environment.{Environment, with_before}
use Rattle.scope_env.specs.Kept.{environment_of}
use Rattle.scope_env.specs.Marks.{IsKept}
use Rattle.scope_env.proofs.Fields.{read_there}
use Rattle.scope_env.proofs.PutBack.{gone, kept_unbound}
use Rattle.scope_env.proofs.env.Env.unbind.Goals as goal

pub invariant_of-self : goal.invariant_of-self
invariant_of-self c =
    let f = c.self.inside in
    let before = environment_of f.scopes.items f.uses.entries f.roots.entries in
    let old = c.index_mut-scope.result.now in
    let there = read_there f.scopes.items f.uses f.roots c.args.self.now c.self.view_is c.args.scope old c.requires c.index_mut-scope.ensures.value in
    subst (λ (e : Environment). IsKept e f.locals f.owns)
    (sym (gone f.scopes.items f.uses.entries f.roots.entries c.args.scope c.args.ident old (record { parent = old.parent; bound = c.remove.new.self }) there refl c.remove.ensures.updates.0))
    (kept_unbound f.locals f.owns before c.args.scope c.args.ident c.self.invariant)

pub returns : goal.returns
returns c =
    let f = c.self.inside in
    let old = c.index_mut-scope.result.now in
    let there = read_there f.scopes.items f.uses f.roots c.args.self.now c.self.view_is c.args.scope old c.requires c.index_mut-scope.ensures.value in
    gone f.scopes.items f.uses.entries f.roots.entries c.args.scope c.args.ident old (record { parent = old.parent; bound = c.remove.new.self }) there refl c.remove.ensures.updates.0
    ∙ ap (λ (e : Environment). with_before e c.args.scope c.args.ident None) c.self.view_is
