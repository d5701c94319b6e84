use Rattle.std.proofs.Common.{◌↔◌, List, take}
use Rattle.std.specs.List.{flat_map}
use Rattle.scheme_model.specs.declared.Occ.{Occ}
use Rattle.scheme_model.specs.ProgramArrows.{Arrow, uses_at}
use Rattle.program_leaves.specs.Pairs.{AreArrows}
use Rattle.program_leaves.specs.Members.{IsIn}
use Rattle.program_answers.proofs.answers.uses_of_all.Given as goal

-- the uses of the binders gone through
abbrev pub invariant-loop-binder : goal.invariant-loop-binder
invariant-loop-binder l = (arrows : List Arrow) → AreArrows l.asked.index.now.arrows arrows → (o : Occ) → IsIn o l.all.items ↔ IsIn o (flat_map (uses_at arrows) (take l.binder-index l.binders))
