use Rattle.std.proofs.Common.{◌≡◌, map, take}
use Rattle.equal_trees.proofs.rules.same_names.Given as goal

abbrev pub invariant-loop-k : goal.invariant-loop-k
invariant-loop-k l = take l.k (map (λ x. x.name) l.leaves) ≡ take l.k (map (λ x. x.name) l.others)
