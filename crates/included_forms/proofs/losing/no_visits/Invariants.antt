use Rattle.std.proofs.Common.{◌≡◌, ℕ, Some, false, length, slice_get}
use Rattle.included_forms.specs.declared.losing.Visit.{Visit}
use Rattle.included_forms.specs.declared.steps.Way.{Way}
use Rattle.included_forms.specs.Losses.{visited_in}
use Rattle.included_forms.proofs.losing.no_visits.Given as goal

abbrev pub invariant-loop-part : goal.invariant-loop-part
invariant-loop-part l = record {
  as_many : length l.visits.items ≡ l.part-index;
  none : (k : ℕ) (v : Visit) (w : Way) → slice_get l.visits.items k ≡ Some v → visited_in v w ≡ false;
}
