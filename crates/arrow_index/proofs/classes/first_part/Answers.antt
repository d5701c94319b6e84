use Rattle.std.proofs.Common.{rules}
use Rattle.std.specs.Ordering.{is_lt}
use Rattle.std.proofs.lemmas.List.Sorted.{IsPartitionPoint-from_clause}
use Rattle.program_leaves.specs.Placed.{occ_cmp}
use Rattle.arrow_index.specs.declared.classes.ClassPart.{ClassPart}
use Rattle.arrow_index.proofs.PartSearch.{before_parts}
use Rattle.arrow_index.proofs.classes.first_part.Goals as goal

pub returns-clause-point : goal.returns-clause-point
returns-clause-point c =
    IsPartitionPoint-from_clause (λ (p : ClassPart). is_lt (occ_cmp p.occ c.args.occ)) _ _ c.partition_point.ensures.partitioned (before_parts c.args.parts.now c.args.occ c.requires) (λ a r q k. search rules)
