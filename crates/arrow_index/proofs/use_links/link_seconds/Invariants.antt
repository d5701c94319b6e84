use Rattle.std.proofs.Common.{◌≡◌, ◌++◌, map, take}
use Rattle.scheme_model.specs.Spelling.{links_to_themselves}
use Rattle.program_leaves.specs.Sights.{all_seconds}
use Rattle.arrow_index.specs.Links.{as_link}
use Rattle.arrow_index.proofs.use_links.link_seconds.Given as goal

abbrev pub invariant-loop-unit : goal.invariant-loop-unit
invariant-loop-unit l = map as_link l.links.items ≡ map as_link l.fn.links.items ++ links_to_themselves (all_seconds (take l.unit-index l.units))
