use Rattle.std.proofs.Common.{subst, sym, ◌∙◌}
use Rattle.scope_env.specs.Environment.{Environment, with_added}
use Rattle.scope_env.specs.Resolved.{local, reached}
use Rattle.scope_env.specs.Marks.{IsKept}
use Rattle.scope_env.proofs.MarkLaws.{no_local_from}
use Rattle.scope_env.proofs.Reached.{reached_within}
use Rattle.scope_env.proofs.env.Env.local.Goals as goal

pub returns-then-is_unmarked : goal.returns-then-is_unmarked
returns-then-is_unmarked c =
    let env = c.args.self.now in
    let l = c.self.inside.locals in
    let o = c.self.inside.owns in
    let kept = subst (λ (e : Environment). IsKept e l o) c.self.view_is c.self.invariant in
    let u = c.is_unmarked.ensures c.if-is_unmarked.true in
    let from = reached env c.args.start c.args.last in
    sym ((λ j. local (with_added env (u.0 j)) from c.args.ident) ∙ no_local_from l o env kept c.args.ident u.1 from (reached_within env kept.sound c.args.start c.requires c.args.last))
