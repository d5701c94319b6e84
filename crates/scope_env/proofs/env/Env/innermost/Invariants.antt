use Rattle.scope_env.proofs.Fields.{Outward}
use Rattle.scope_env.proofs.env.Env.innermost.Given as goal

abbrev pub invariant-loop-parent : goal.invariant-loop-parent
invariant-loop-parent l = Outward l.self l.added l.fn.scope l.at l.ident

abbrev pub decreases-loop-parent : goal.decreases-loop-parent
decreases-loop-parent l = l.at
