use Rattle.std.proofs.Common.{◌<◌, length, subst, sym, ap, ◌∙◌}
use Rattle.syntax_tree.specs.Numbered.{number_of}
use Rattle.scope_env.specs.Environment.{Environment, with_use}
use Rattle.scope_env.specs.Kept.{environment_of}
use Rattle.scope_env.specs.Marks.{IsKept}
use Rattle.scope_env.proofs.MarkLaws.{kept_use}
use Rattle.scope_env.proofs.Changes.{use_seen}
use Rattle.scope_env.proofs.env.Env.note_use.Goals as goal

pub invariant_of-self-2 : goal.invariant_of-self-2
invariant_of-self-2 c =
    let before = environment_of c.self.inside.scopes.items c.self.inside.uses.entries c.self.inside.roots.entries in
    let within : c.args.scope < length before.scopes = subst (λ (e : Environment). c.args.scope < length e.scopes) (sym c.self.view_is) c.requires in
    subst (λ (e : Environment). IsKept e c.self.inside.locals c.self.inside.owns)
    (sym (use_seen c.self.inside.scopes.items c.self.inside.roots.entries c.self.inside.uses c.insert.new.self c.args.number c.args.scope c.in_ok-insert.ensures.updates))
    (kept_use c.self.inside.locals c.self.inside.owns before (number_of c.args.number) c.args.scope c.self.invariant within)

pub returns-clause-noted : goal.returns-clause-noted
returns-clause-noted c =
    use_seen c.self.inside.scopes.items c.self.inside.roots.entries c.self.inside.uses c.insert.new.self c.args.number c.args.scope c.in_ok-insert.ensures.updates
    ∙ ap (λ (e : Environment). with_use e (number_of c.args.number) c.args.scope) c.self.view_is
