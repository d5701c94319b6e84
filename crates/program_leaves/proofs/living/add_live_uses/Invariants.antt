use Rattle.std.proofs.Common.{take, map}
use Rattle.scheme_model.specs.ProgramArrows.{any}
use Rattle.program_leaves.specs.Placed.{use_of}
use Rattle.program_leaves.specs.Sights.{Grows, use_at}
use Rattle.program_leaves.proofs.living.add_live_uses.Given as goal

abbrev pub invariant-loop-target : goal.invariant-loop-target
invariant-loop-target l = Grows l.fn.live l.live (λ o. any (use_at o) (map use_of (take l.target-index l.uses)))
