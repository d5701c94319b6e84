use Rattle.std.proofs.Common.{◌≡◌, true, false, rules, arith}
use Rattle.std.specs.List.Sorted.{IsPartitionPoint}
use Rattle.std.proofs.lemmas.List.Sorted.{IsPartitionPoint-from_clause}
use Rattle.text_positions.specs.Marks.{is_reached}
use Rattle.text_positions.proofs.MarkOrder.{reached_parted, found_within, found_last, found_none}
use Rattle.text_positions.proofs.marks.mark_within.Goals as goal
use Rattle.text_positions.proofs.marks.mark_within.Goals.{After-partition_point-behind, else-behind-gt0-via-then-behind-gt0+else-marks-behind, else-behind-gt0-via-else-behind-gt0}

-- where the search by halves ends
point : (c : After-partition_point-behind) → IsPartitionPoint (λ m. is_reached c.args.start c.args.units c.args.encoding m ≡ true) (λ m. is_reached c.args.start c.args.units c.args.encoding m ≡ false) c.args.marks.now c.partition_point-behind.result
point c = IsPartitionPoint-from_clause (is_reached c.args.start c.args.units c.args.encoding) _ _ c.partition_point-behind.ensures.partitioned (reached_parted c.args.start c.args.units c.args.encoding c.args.marks.now c.requires) (λ a r q k. search rules)

pub returns-then-marks-behind-clause-within : goal.returns-then-marks-behind-clause-within
returns-then-marks-behind-clause-within c =
    found_within c.args.start c.args.units c.args.encoding c.args.marks.now _ c.requires c.partition_point-behind.ensures.bound (point (goal.at.returns-then-marks-behind-clause-within c).After-partition_point-behind) _ c.if-behind-gt0.true c.if-marks-behind.true

pub returns-then-marks-behind-clause-last : goal.returns-then-marks-behind-clause-last
returns-then-marks-behind-clause-last c =
    found_last c.args.start c.args.units c.args.encoding c.args.marks.now _ c.requires c.partition_point-behind.ensures.bound (point (goal.at.returns-then-marks-behind-clause-last c).After-partition_point-behind) _ c.if-behind-gt0.true c.if-marks-behind.true

pub returns-clause-last : goal.returns-clause-last
returns-clause-last c =
    found_none c.args.start c.args.units c.args.encoding c.args.marks.now _ c.requires c.partition_point-behind.ensures.bound (point (goal.at.returns-clause-last c).After-partition_point-behind)
    (record { start = 0; utf8 = 0; utf16 = 0; utf32 = 0 }) c.begin.result.utf8
    (λ some. elim c.else-behind-gt0.branch [
      | else-behind-gt0-via-then-behind-gt0+else-marks-behind w ↦ w.if-marks-behind.false
      | else-behind-gt0-via-else-behind-gt0 w ↦ absurd (omega (arith, some, w.if-behind-gt0.false))
    ])
