use Rattle.std.proofs.Common.{◌≡◌, ℕ, ◌<◌}
use Rattle.text_parts.specs.Marks.{marked}
use Rattle.text_parts.proofs.reaches.are_same.Given as goal

abbrev pub invariant-loop-place : goal.invariant-loop-place
invariant-loop-place l = (k : ℕ) → k < l.place → marked l.marks k ≡ marked l.others k
