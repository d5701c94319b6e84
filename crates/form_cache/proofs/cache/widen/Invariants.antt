use Rattle.std.proofs.Common.{◌≡◌, ℕ, ◌+◌, ◌-◌, length}
use Rattle.form_cache.specs.Cached.{entries_at}
use Rattle.form_cache.proofs.cache.widen.Given as goal

abbrev pub invariant-loop-alloc : goal.invariant-loop-alloc
invariant-loop-alloc l = (u : ℕ) → entries_at l.units.items u ≡ entries_at l.fn.units.items u

abbrev pub decreases-loop-alloc : goal.decreases-loop-alloc
decreases-loop-alloc l = l.unit + 1 - length l.units.items
