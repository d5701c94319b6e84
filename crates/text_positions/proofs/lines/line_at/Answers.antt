use Rattle.std.proofs.Common.{◌≡◌, leb, true, false, rules}
use Rattle.std.specs.List.Sorted.{IsPartitionPoint}
use Rattle.std.proofs.lemmas.List.Sorted.{IsPartitionPoint-from_clause, IsPartitionedBy-leb}
use Rattle.text_positions.proofs.Places.{searched}
use Rattle.text_positions.proofs.lines.line_at.Goals as goal
use Rattle.text_positions.proofs.lines.line_at.Goals.{After-partition_point}

-- where the search by halves ends
point : (c : After-partition_point) → IsPartitionPoint (λ y. leb y c.args.offset ≡ true) (λ y. leb y c.args.offset ≡ false) c.args.starts.now c.partition_point.result
point c = IsPartitionPoint-from_clause (λ y. leb y c.args.offset) _ _ c.partition_point.ensures.partitioned (IsPartitionedBy-leb (λ y. y) _ c.args.offset c.requires.rise) (λ a r q k. search rules)

pub overflow_sub-result : goal.overflow_sub-result
overflow_sub-result c =
    let found = searched c.args.starts.now c.args.offset _ c.requires.first (point c) c.partition_point.ensures.bound in
    found.0

pub returns : goal.returns
returns c =
    let found = searched c.args.starts.now c.args.offset _ c.requires.first (point c) c.partition_point.ensures.bound in
    found.1
