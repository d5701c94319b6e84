use Rattle.std.proofs.Common.{◌≡◌, ◌<◌, ℕ, true, List}
use Rattle.scheme_model.specs.Program.{Prepared, is_in}
use Rattle.import_sets.specs.Graphs.{IsGraph, is_circular, passing}
use Rattle.import_sets.proofs.circles.on_circles.Given as goal

abbrev pub invariant-loop-place : goal.invariant-loop-place
invariant-loop-place l = record {
  circular : (ps : List Prepared) → IsGraph l.graph ps → l.places ≡ passing (is_circular ps) l.place;
  below : (n : ℕ) → is_in n l.places ≡ true → n < l.place;
}
