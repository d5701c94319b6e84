use Rattle.std.proofs.Common.{sym, ap, subst, Some, ◌∙◌}
use Rattle.scope_env.specs.Environment.{Environment, IsSound}
use Rattle.scope_env.specs.Resolved.{reached}
use Rattle.scope_env.proofs.Fields.{use_is}
use Rattle.scope_env.proofs.Reached.{reached_within}
use Rattle.scope_env.proofs.env.Env.reached.Goals as goal

pub returns-in-Some-clause-scope : goal.returns-in-Some-clause-scope
returns-in-Some-clause-scope c =
    sym (use_is c.self.inside.scopes.items c.self.inside.uses c.self.inside.roots c.args.self.now c.self.view_is c.in-Some.number c.copied.result (c.copied.ensures ∙ c.get.ensures.value))
    ∙ ap (reached c.args.self.now c.args.start) (sym c.in-Some.is)

pub returns-in-Some-clause-within : goal.returns-in-Some-clause-within
returns-in-Some-clause-within c = λ n is.
    let scope = use_is c.self.inside.scopes.items c.self.inside.uses c.self.inside.roots c.args.self.now c.self.view_is c.in-Some.number c.copied.result (c.copied.ensures ∙ c.get.ensures.value) in
    reached_within c.args.self.now (subst (λ (e : Environment). IsSound e) c.self.view_is c.self.invariant.sound) c.args.start c.requires (Some c.in-Some.number) n (scope ∙ is)
