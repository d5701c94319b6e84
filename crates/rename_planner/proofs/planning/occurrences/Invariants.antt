use Rattle.std.proofs.Common.{◌≡◌, map, take}
use Rattle.program_answers.specs.declared.classes.ClassPart.{ClassPart}
use Rattle.rename_planner.proofs.planning.occurrences.Given as goal

-- those of the parts gone through
abbrev pub invariant-loop-part : goal.invariant-loop-part
invariant-loop-part l = l.occs ≡ map (λ (part : ClassPart). part.occ) (take l.part-index l.parts)
