use Rattle.std.proofs.Common.{◌≡◌, ℕ, take}
use Rattle.std.specs.Prelude.{◌||◌}
use Rattle.scheme_model.specs.Program.{is_in}
use Rattle.import_sets.specs.Waiting.{has}
use Rattle.import_sets.proofs.turns.add_all.Given as goal

abbrev pub invariant-loop-place : goal.invariant-loop-place
invariant-loop-place l = (n : ℕ) → has l.waiting n ≡ (has l.initial.waiting n || is_in n (take l.place-index l.places))
