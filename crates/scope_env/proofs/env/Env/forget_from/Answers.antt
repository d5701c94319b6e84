use Rattle.std.proofs.Common.{◌≡◌, ℕ, ◌<◌, Some, subst, sym, ap, ◌∙◌}
use Rattle.std.specs.FinMap.{get}
use Rattle.scope_env.specs.Environment.{Environment, without_locals}
use Rattle.scope_env.specs.Kept.{environment_of}
use Rattle.scope_env.specs.Marks.{IsKept}
use Rattle.scope_env.proofs.Forgotten.{kept_forgotten, forgotten_seen}
use Rattle.scope_env.proofs.env.Env.forget_from.Goals as goal

-- what the fields stand for then
seen : (c : goal.After-drop-self-inside) → environment_of c.truncate.new.self.items c.new.result.entries c.self.inside.roots.entries ≡ without_locals (environment_of c.self.inside.scopes.items c.self.inside.uses.entries c.self.inside.roots.entries) c.args.from
seen c = forgotten_seen c.self.inside.scopes.items c.truncate.new.self.items c.self.inside.uses.entries c.new.result c.self.inside.roots.entries c.args.from c.truncate.ensures.items c.new.ensures.empty

pub invariant_of-self : goal.invariant_of-self
invariant_of-self c =
    let before = environment_of c.self.inside.scopes.items c.self.inside.uses.entries c.self.inside.roots.entries in
    let roots : (u n : ℕ) → get before.roots u ≡ Some n → n < c.args.from = subst (λ (e : Environment). (u n : ℕ) → get e.roots u ≡ Some n → n < c.args.from) (sym c.self.view_is) c.requires in
    subst (λ (e : Environment). IsKept e c.self.inside.locals c.self.inside.owns) (sym (seen c)) (kept_forgotten before c.args.from c.self.invariant.sound roots c.self.inside.locals c.self.inside.owns c.self.invariant)

pub returns : goal.returns
returns c = seen c ∙ ap (λ (e : Environment). without_locals e c.args.from) c.self.view_is
