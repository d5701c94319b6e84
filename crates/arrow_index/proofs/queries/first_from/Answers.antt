use Rattle.std.proofs.Common.{rules}
use Rattle.std.specs.Ordering.{is_lt}
use Rattle.std.proofs.lemmas.List.Sorted.{IsPartitionPoint-from_clause}
use Rattle.program_leaves.specs.declared.pairs.Pair.{Pair}
use Rattle.program_leaves.specs.Placed.{occ_cmp}
use Rattle.arrow_index.proofs.QueryLaws.{before_parts}
use Rattle.arrow_index.proofs.queries.first_from.Goals as goal

pub returns-clause-point : goal.returns-clause-point
returns-clause-point c =
    IsPartitionPoint-from_clause (λ (p : Pair). is_lt (occ_cmp p.binder c.args.binder)) _ _ c.partition_point.ensures.partitioned (before_parts c.args.pairs.now c.args.binder c.requires) (λ a r q k. search rules)
