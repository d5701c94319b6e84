use Rattle.std.proofs.Common.{◌≡◌, ◌++◌, map, take}
use Rattle.scheme_model.specs.Spelling.{arrow_links}
use Rattle.program_leaves.specs.Pairs.{as_arrow}
use Rattle.arrow_index.specs.Links.{as_link}
use Rattle.arrow_index.proofs.links.link_arrows.Given as goal

abbrev pub invariant-loop-pair : goal.invariant-loop-pair
invariant-loop-pair l = map as_link l.links.items ≡ map as_link l.fn.links.items ++ arrow_links (map as_arrow (take l.pair-index l.pairs))
