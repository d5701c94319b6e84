use Rattle.std.proofs.Common.{take}
use Rattle.scheme_model.specs.ProgramArrows.{any}
use Rattle.program_leaves.specs.Sights.{Grows, name_at}
use Rattle.program_leaves.proofs.living.add_live_unit.Given as goal

abbrev pub invariant-loop-name : goal.invariant-loop-name
invariant-loop-name l = Grows l.fn.live l.live (λ o. any (name_at o) (take l.name-index l.names))
