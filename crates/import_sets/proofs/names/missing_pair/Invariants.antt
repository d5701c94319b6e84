use Rattle.std.proofs.Common.{◌≡◌, drop, map}
use Rattle.import_sets.specs.declared.set.NamePair.{NamePair}
use Rattle.import_sets.specs.Given.{missing}
use Rattle.import_sets.proofs.names.missing_pair.Given as goal

-- what is missing is among those that are left
abbrev pub invariant-loop-pair : goal.invariant-loop-pair
invariant-loop-pair l = missing (map (λ (p : NamePair). p.from) (drop l.pair-index l.pairs)) l.fn.entries ≡ missing (map (λ (p : NamePair). p.from) l.pairs) l.fn.entries
