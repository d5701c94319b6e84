use Rattle.std.proofs.Common.{◌≡◌, take}
use Rattle.std.specs.List.{flat_map}
use Rattle.arrow_index.specs.Binders.{binders_with}
use Rattle.arrow_index.proofs.binders.pointing.Given as goal

abbrev pub invariant-loop-pair : goal.invariant-loop-pair
invariant-loop-pair l = l.binders.items ≡ flat_map (binders_with l.occ) (take l.pair-index l.pairs)
