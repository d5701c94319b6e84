use Rattle.std.proofs.Common.{◌≡◌, true, is_some, Option, sym, ap, ◌∙◌, refl, subst}
use Rattle.std.specs.FinMap.{get}
use Rattle.std.specs.Option.{option_and_then}
use Rattle.std.specs.Ordering.{nat_cmp}
use Rattle.std.specs.BTreeMap as tree
use Rattle.scope_env.specs.Environment.{Environment, Scope, with_bound}
use Rattle.scope_env.specs.Kept.{environment_of}
use Rattle.scope_env.specs.Marks.{IsKept}
use Rattle.scope_env.specs.Resolved.{bound_at}
use Rattle.scope_env.proofs.Changes.{bound_seen}
use Rattle.scope_env.proofs.Fields.{read_there, scope_there}
use Rattle.scope_env.proofs.MarkLaws.{kept_bound}
use Rattle.scope_env.proofs.Orders.{get_plain}
use Rattle.scope_env.proofs.PutBack.{there_already, is_marked}
use Rattle.scope_env.proofs.env.Env.bind_again.Goals as goal

pub invariant_of-self : goal.invariant_of-self
invariant_of-self c =
    let f = c.self.inside in
    let before = environment_of f.scopes.items f.uses.entries f.roots.entries in
    let old = c.index_mut-scope.result.now in
    let there = read_there f.scopes.items f.uses f.roots c.args.self.now c.self.view_is c.args.scope old c.requires.scope c.index_mut-scope.ensures.value in
    let seen = scope_there f.scopes.items f.uses f.roots c.args.self.now c.self.view_is c.args.scope old there in
    let has : is_some (tree.get nat_cmp old.bound c.args.ident) ≡ true =
    ap is_some (sym (ap (λ (o : Option Scope). option_and_then (λ (s : Scope). get s.bound c.args.ident) o) seen ∙ get_plain old.bound c.args.ident)) ∙ c.requires.bound in
    let updates = there_already c.insert.result (tree.get nat_cmp old.bound c.args.ident) has c.insert.ensures.updates c.insert.ensures.absent in
    subst (λ (e : Environment). IsKept e f.locals f.owns)
    (sym (bound_seen f.scopes.items f.uses.entries f.roots.entries c.args.scope c.args.ident c.args.meaning old (record { parent = old.parent; bound = c.insert.new.self }) there refl updates))
    (kept_bound f.locals f.owns before c.args.scope c.args.ident c.args.meaning c.self.invariant
    (is_marked f.locals f.owns before c.args.scope c.args.ident c.self.invariant (subst (λ (e : Environment). is_some (bound_at e c.args.scope c.args.ident) ≡ true) (sym c.self.view_is) c.requires.bound)))

pub returns : goal.returns
returns c =
    let f = c.self.inside in
    let old = c.index_mut-scope.result.now in
    let there = read_there f.scopes.items f.uses f.roots c.args.self.now c.self.view_is c.args.scope old c.requires.scope c.index_mut-scope.ensures.value in
    let seen = scope_there f.scopes.items f.uses f.roots c.args.self.now c.self.view_is c.args.scope old there in
    let has : is_some (tree.get nat_cmp old.bound c.args.ident) ≡ true =
    ap is_some (sym (ap (λ (o : Option Scope). option_and_then (λ (s : Scope). get s.bound c.args.ident) o) seen ∙ get_plain old.bound c.args.ident)) ∙ c.requires.bound in
    let updates = there_already c.insert.result (tree.get nat_cmp old.bound c.args.ident) has c.insert.ensures.updates c.insert.ensures.absent in
    bound_seen f.scopes.items f.uses.entries f.roots.entries c.args.scope c.args.ident c.args.meaning old (record { parent = old.parent; bound = c.insert.new.self }) there refl updates
    ∙ ap (λ (e : Environment). with_bound e c.args.scope c.args.ident c.args.meaning) c.self.view_is
