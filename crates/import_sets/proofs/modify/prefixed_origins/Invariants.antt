use Rattle.std.proofs.Common.{◌≡◌, map, take}
use Rattle.import_sets.specs.Given.{prefixed_origin}
use Rattle.import_sets.proofs.modify.prefixed_origins.Given as goal

abbrev pub invariant-loop-origin : goal.invariant-loop-origin
invariant-loop-origin l = l.all ≡ map (prefixed_origin l.prefix) (take l.origin-index l.origins)
