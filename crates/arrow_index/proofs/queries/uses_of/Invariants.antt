use Rattle.std.proofs.Common.{◌≡◌, ◌≤◌, take}
use Rattle.std.specs.List.{flat_map}
use Rattle.arrow_index.specs.Binders.{targets_with}
use Rattle.arrow_index.proofs.queries.uses_of.Given as goal

abbrev pub invariant-loop-k : goal.invariant-loop-k
invariant-loop-k l = (l.from ≤ l.k) × (l.uses ≡ flat_map (targets_with l.fn.binder) (take l.k l.pairs))
