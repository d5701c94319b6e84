use Rattle.std.proofs.Common.{◌≡◌, map, take}
use Rattle.std.specs.Prelude.{filter}
use Rattle.unit_scopes.proofs.uses.held.Given as goal

abbrev pub invariant-loop-comparison : goal.invariant-loop-comparison
invariant-loop-comparison l = l.same ≡ map (λ c. c.pair) (filter (λ c. c.held) (take l.comparison-index l.comparisons))
