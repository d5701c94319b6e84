use Rattle.std.proofs.Common.{◌≡◌, ◌++◌, map, take}
use Rattle.scheme_model.specs.Spelling.{links_to_themselves}
use Rattle.arrow_index.specs.Links.{as_link}
use Rattle.arrow_index.proofs.links.link_themselves.Given as goal

abbrev pub invariant-loop-place : goal.invariant-loop-place
invariant-loop-place l = map as_link l.links.items ≡ map as_link l.fn.links.items ++ links_to_themselves (take l.place-index l.places)
