use Rattle.std.proofs.Common.{◌≡◌, drop}
use Rattle.std.specs.Prelude.{false}
use Rattle.program_differences.specs.Reached.{with_importers}
use Rattle.program_differences.proofs.reach.reach_importers.Given as goal

abbrev pub invariant-loop-place : goal.invariant-loop-place
invariant-loop-place l = record {
  left : with_importers l.place (drop l.place l.units) l.reached.items ≡ with_importers 0 l.units l.fn.reached.items;
  none : l.any ≡ false → l.reached.items ≡ l.fn.reached.items;
}
