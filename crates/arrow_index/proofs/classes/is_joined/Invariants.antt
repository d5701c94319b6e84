use Rattle.std.proofs.Common.{◌≡◌, take, map, false}
use Rattle.arrow_index.specs.Links.{as_link}
use Rattle.scheme_model.specs.Spelling.{is_joined}
use Rattle.arrow_index.proofs.classes.is_joined.Given as goal

abbrev pub invariant-loop-link : goal.invariant-loop-link
invariant-loop-link l = is_joined (map as_link (take l.link-index l.links)) l.occ ≡ false
