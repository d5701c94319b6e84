use Rattle.std.proofs.Common.{◌<◌, length, subst, sym, refl}
use Rattle.scope_env.specs.Environment.{Environment}
use Rattle.scope_env.specs.Kept.{environment_of}
use Rattle.scope_env.specs.Marks.{IsKept}
use Rattle.scope_env.proofs.MarkLaws.{kept_child}
use Rattle.scope_env.proofs.Changes.{child_seen}
use Rattle.scope_env.proofs.env.Env.child.Goals as goal

pub invariant_of-self-2 : goal.invariant_of-self-2
invariant_of-self-2 c =
    let before = environment_of c.self.inside.scopes.items c.self.inside.uses.entries c.self.inside.roots.entries in
    let within : c.args.parent < length before.scopes = subst (λ (e : Environment). c.args.parent < length e.scopes) (sym c.self.view_is) c.requires in
    subst (λ (e : Environment). IsKept e c.self.inside.locals c.self.inside.owns)
    (sym (child_seen c.self.inside.scopes.items c.push.new.self.items c.self.inside.uses.entries c.self.inside.roots.entries c.args.parent _ c.in_ok-push.ensures.items refl c.new-bound.ensures.empty))
    (kept_child c.self.inside.locals c.self.inside.owns before c.args.parent c.self.invariant within)
