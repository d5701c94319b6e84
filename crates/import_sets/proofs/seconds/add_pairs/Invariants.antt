use Rattle.std.proofs.Common.{◌≡◌, ◌++◌, take}
use Rattle.import_sets.specs.Seconds.{pair_seconds}
use Rattle.import_sets.proofs.seconds.add_pairs.Given as goal

abbrev pub invariant-loop-pair : goal.invariant-loop-pair
invariant-loop-pair l = l.places ≡ l.initial.places ++ pair_seconds (take l.pair-index l.pairs)
