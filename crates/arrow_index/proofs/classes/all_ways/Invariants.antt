use Rattle.std.proofs.Common.{◌≡◌, map, take}
use Rattle.program_leaves.specs.Pairs.{as_arrow}
use Rattle.arrow_index.specs.Links.{as_link}
use Rattle.arrow_index.specs.Classes.{ways_of}
use Rattle.arrow_index.proofs.classes.all_ways.Given as goal

abbrev pub invariant-loop-link : goal.invariant-loop-link
invariant-loop-link l = map as_arrow l.ways.items ≡ ways_of (map as_link (take l.link-index l.links))
