use Rattle.std.proofs.Common.{◌≡◌, ℕ, ◌≤◌, length, slice_get}
use Rattle.form_cache.specs.Cached.{entry_if}
use Rattle.form_cache.proofs.cache.make_places.Given as goal

abbrev pub invariant-loop : goal.invariant-loop
invariant-loop l = (l.counter ≤ length l.forms.items) × (length l.fn.forms.items ≤ length l.forms.items) × ((f : ℕ) → entry_if (slice_get l.forms.items f) ≡ entry_if (slice_get l.fn.forms.items f))
