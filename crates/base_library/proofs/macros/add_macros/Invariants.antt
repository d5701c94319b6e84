use Rattle.std.proofs.Common.{take}
use Rattle.base_library.specs.Macros.{Each}
use Rattle.base_library.specs.Sketched.{IsSketched, IsMade, sketches_size}
use Rattle.base_library.proofs.macros.add_macros.Given as goal

abbrev pub invariant-loop-sketch : goal.invariant-loop-sketch
invariant-loop-sketch l =
    IsMade l.fn.work l.work l.region (sketches_size (take l.sketch-index l.sketches)) × Each (IsSketched l.work l.region) l.macros (take l.sketch-index l.sketches)
