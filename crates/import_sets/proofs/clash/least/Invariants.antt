use Rattle.std.proofs.Common.{◌≡◌, reverse, vec_len}
use Rattle.import_sets.specs.Given.{least}
use Rattle.import_sets.proofs.clash.least.Given as goal

-- the least of those that are left and that so far
abbrev pub invariant-loop-name : goal.invariant-loop-name
invariant-loop-name l = least l.least (reverse l.rest.items) ≡ least l.initial.least (reverse l.initial.rest.items)

abbrev pub decreases-loop-name : goal.decreases-loop-name
decreases-loop-name l = vec_len l.rest
