use Rattle.std.proofs.Common.{◌≡◌, ◌++◌, drop}
use Rattle.unit_sources.specs.Named.{later_from}
use Rattle.unit_sources.proofs.repeats.later_places.Given as goal

-- the places so far and those that are left
abbrev pub invariant-loop-place : goal.invariant-loop-place
invariant-loop-place l = l.places ++ later_from l.units l.place (drop l.place l.units) ≡ later_from l.units 0 l.units
