use Rattle.std.proofs.Common.{Some}
use Rattle.scope_env.specs.Environment.{with_added}
use Rattle.scope_env.specs.Resolved.{reached}
use Rattle.scope_env.proofs.Walk.{Walked, depth_at}
use Rattle.scope_env.proofs.env.Env.meant.Given as goal

abbrev pub invariant-loop-meaning : goal.invariant-loop-meaning
invariant-loop-meaning l = Walked l.symbols (with_added l.self l.added) (Some l.fn.scope) l.fn.ident (reached l.self l.fn.scope l.last) l.at

abbrev pub decreases-loop-meaning : goal.decreases-loop-meaning
decreases-loop-meaning l = depth_at l.symbols l.at
