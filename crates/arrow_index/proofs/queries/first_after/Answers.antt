use Rattle.std.proofs.Common.{not, rules}
use Rattle.std.specs.Ordering.{is_lt}
use Rattle.std.proofs.lemmas.List.Sorted.{IsPartitionPoint-from_clause}
use Rattle.program_leaves.specs.declared.pairs.Pair.{Pair}
use Rattle.program_leaves.specs.Placed.{occ_cmp}
use Rattle.arrow_index.proofs.QueryLaws.{after_parts}
use Rattle.arrow_index.proofs.queries.first_after.Goals as goal

pub returns-clause-point : goal.returns-clause-point
returns-clause-point c =
    IsPartitionPoint-from_clause (λ (p : Pair). not (is_lt (occ_cmp c.args.binder p.binder))) _ _ c.partition_point.ensures.partitioned (after_parts c.args.pairs.now c.args.binder c.requires) (λ a r q k. search rules)
