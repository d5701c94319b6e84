use Rattle.std.proofs.Common.{◌≡◌, ℕ, List, take}
use Rattle.std.specs.BTreeMap.{get_by_text}
use Rattle.unit_sources.specs.Named.{place_named}
use Rattle.unit_sources.proofs.firsts.first_places.Given as goal

abbrev pub invariant-loop-place : goal.invariant-loop-place
invariant-loop-place l = (s : List ℕ) → get_by_text l.places s ≡ place_named s 0 (take l.place l.units)
