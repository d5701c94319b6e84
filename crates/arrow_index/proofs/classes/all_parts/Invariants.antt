use Rattle.std.proofs.Common.{◌≡◌, take}
use Rattle.std.specs.List.{flat_map}
use Rattle.std.specs.BTreeSet.{contains}
use Rattle.program_leaves.specs.Placed.{occ_cmp}
use Rattle.arrow_index.specs.Classes.{parts_from}
use Rattle.arrow_index.proofs.classes.all_parts.Given as goal

abbrev pub invariant-loop-link : goal.invariant-loop-link
invariant-loop-link l = l.parts.items ≡ flat_map (parts_from (λ o. contains occ_cmp l.outside o)) (take l.link-index l.links)
