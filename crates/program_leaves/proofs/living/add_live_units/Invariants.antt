use Rattle.std.proofs.Common.{take}
use Rattle.scheme_model.specs.ProgramArrows.{any}
use Rattle.program_leaves.specs.Sights.{Grows, name_at, all_names}
use Rattle.program_leaves.proofs.living.add_live_units.Given as goal

abbrev pub invariant-loop-unit : goal.invariant-loop-unit
invariant-loop-unit l = Grows l.fn.live l.live (λ o. any (name_at o) (all_names (take l.unit-index l.units)))
