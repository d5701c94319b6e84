use Rattle.std.proofs.Common.{subst, sym, ◌∙◌, arith}
use Rattle.scope_env.specs.Environment.{Environment, IsSound}
use Rattle.scope_env.proofs.Fields.{read_there, outermost, binds, outwards_on, parent_older}
use Rattle.scope_env.proofs.env.Env.innermost.Goals as goal

pub returns-in_err-parent : goal.returns-in_err-parent
returns-in_err-parent c =
    let sound = subst (λ (e : Environment). IsSound e) c.self.view_is c.self.invariant.sound in
    let there = read_there c.self.inside.scopes.items c.self.inside.uses c.self.inside.roots c.args.self.now c.self.view_is c.loop-parent.at c.index.result.now c.loop-parent.invariant.within c.index.ensures in
    c.from_residual-in_err-parent.ensures
    ∙ sym (c.loop-parent.invariant.same ∙ outermost c.self.inside.scopes.items c.self.inside.uses c.self.inside.roots c.args.self.now c.self.view_is c.args.added sound c.loop-parent.at c.args.ident c.index.result.now there c.in_err-parent.was)

pub returns-in-Some : goal.returns-in-Some
returns-in-Some c =
    let sound = subst (λ (e : Environment). IsSound e) c.self.view_is c.self.invariant.sound in
    let there = read_there c.self.inside.scopes.items c.self.inside.uses c.self.inside.roots c.args.self.now c.self.view_is c.loop-parent.at c.index.result.now c.loop-parent.invariant.within c.index.ensures in
    sym (c.loop-parent.invariant.same ∙ binds c.self.inside.scopes.items c.self.inside.uses c.self.inside.roots c.args.self.now c.self.view_is c.args.added sound c.loop-parent.at c.args.ident c.index.result.now there c.in_ok-parent.parent c.in-Some.meaning c.in_ok-parent.was c.in-Some.ensures)

pub loop-parent-smaller : goal.loop-parent-smaller
loop-parent-smaller c =
    let sound = subst (λ (e : Environment). IsSound e) c.self.view_is c.self.invariant.sound in
    let there = read_there c.self.inside.scopes.items c.self.inside.uses c.self.inside.roots c.args.self.now c.self.view_is c.loop-parent.at c.index.result.now c.loop-parent.invariant.within c.index.ensures in
    parent_older c.self.inside.scopes.items c.self.inside.uses c.self.inside.roots c.args.self.now c.self.view_is sound c.loop-parent.at c.index.result.now there c.in_ok-parent.parent c.in_ok-parent.was

pub loop-parent-preserved : goal.loop-parent-preserved
loop-parent-preserved c =
    let sound = subst (λ (e : Environment). IsSound e) c.self.view_is c.self.invariant.sound in
    let there = read_there c.self.inside.scopes.items c.self.inside.uses c.self.inside.roots c.args.self.now c.self.view_is c.loop-parent.at c.index.result.now c.loop-parent.invariant.within c.index.ensures in
    let older = parent_older c.self.inside.scopes.items c.self.inside.uses c.self.inside.roots c.args.self.now c.self.view_is sound c.loop-parent.at c.index.result.now there c.in_ok-parent.parent c.in_ok-parent.was in
    record {
      within = omega (arith, c.loop-parent.invariant.within, older);
      same = c.loop-parent.invariant.same
          ∙ outwards_on c.self.inside.scopes.items c.self.inside.uses c.self.inside.roots c.args.self.now c.self.view_is c.args.added sound c.loop-parent.at c.args.ident c.index.result.now there c.in_ok-parent.parent c.in_ok-parent.was c.in_default.ensures;
    }
