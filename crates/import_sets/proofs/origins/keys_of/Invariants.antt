use Rattle.std.proofs.Common.{◌≡◌, take}
use Rattle.std.specs.BTreeSet.{contains}
use Rattle.syntax_tree.specs.declared.units.Origin.{Origin}
use Rattle.import_sets.specs.Given.{key_cmp, key_of, has_origin}
use Rattle.import_sets.proofs.origins.keys_of.Given as goal

abbrev pub invariant-loop-origin : goal.invariant-loop-origin
invariant-loop-origin l = (o : Origin) → contains key_cmp l.keys (key_of o) ≡ has_origin (take l.origin-index l.origins) o
