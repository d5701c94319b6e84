use Rattle.std.proofs.Common.{◌≡◌, map, take}
use Rattle.std.specs.BTreeSet.{contains}
use Rattle.scheme_model.specs.declared.Occ.{Occ}
use Rattle.program_leaves.specs.Placed.{occ_cmp}
use Rattle.arrow_index.specs.Links.{as_link}
use Rattle.scheme_model.specs.Spelling.{is_joined}
use Rattle.arrow_index.proofs.classes.ends_of.Given as goal

abbrev pub invariant-loop-link : goal.invariant-loop-link
invariant-loop-link l = (o : Occ) → contains occ_cmp l.ends o ≡ is_joined (map as_link (take l.link-index l.links)) o
