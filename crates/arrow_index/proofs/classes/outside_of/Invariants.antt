use Rattle.std.proofs.Common.{◌+◌, map, vec_len}
use Rattle.std.specs.BTreeSet.{btree_set_len}
use Rattle.arrow_index.specs.Links.{as_link}
use Rattle.arrow_index.proofs.ClassWalks.{IsWalk}
use Rattle.arrow_index.proofs.classes.outside_of.Given as goal

abbrev pub invariant-loop-place : goal.invariant-loop-place
invariant-loop-place l = IsWalk (map as_link l.links) l.fn.occ l.outside l.left.items

abbrev pub decreases-loop-place : goal.decreases-loop-place
decreases-loop-place l = btree_set_len l.outside + vec_len l.left
