use Rattle.std.proofs.Common.{take}
use Rattle.scheme_model.specs.ProgramArrows.{any, is_occ}
use Rattle.program_leaves.specs.Sights.{Grows}
use Rattle.program_leaves.proofs.living.add_live_names.Given as goal

abbrev pub invariant-loop-name : goal.invariant-loop-name
invariant-loop-name l = Grows l.fn.live l.live (λ o. any (λ n. is_occ o n.occ) (take l.name-index l.names))
