use Rattle.std.proofs.Common.{◌≡◌, ℕ, List, take}
use Rattle.import_sets.specs.Firsts.{place_of, place_under}
use Rattle.import_sets.proofs.firsts.entry_places.Given as goal

abbrev pub invariant-loop-place : goal.invariant-loop-place
invariant-loop-place l = (s : List ℕ) → place_under l.places s ≡ place_of s 0 (take l.place l.entries)
