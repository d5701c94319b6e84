use Rattle.std.proofs.Common.{◌+◌, ◌<◌, length, set, subst, ◌∙◌, arith, length-set}
use Rattle.moves.proofs.TableLaws.{LeadsBack, moved_read, stays_within, one_more}
use Rattle.moves.proofs.backs.back.Goals as goal

pub index_mut-requires : goal.index_mut-requires
index_mut-requires c =
    let ns = c.args.numbers.now in
    let n = c.loop-number.number in
    let lt : n < length ns = omega arith in
    omega (arith, stays_within ns c.requires n lt, moved_read ns n 0 lt, c.loop-number.invariant.length)

pub loop-number-preserved : goal.loop-number-preserved
loop-number-preserved c =
    let ns = c.args.numbers.now in
    let old = c.loop-number.old.items in
    let n = c.loop-number.number in
    let lt : n < length ns = omega arith in
    record {
      length = length-set old _ n ∙ c.loop-number.invariant.length;
      back = subst (λ v. LeadsBack (set old v n) ns (n + 1)) (moved_read ns n 0 lt) (one_more old ns n c.requires c.loop-number.invariant.length lt c.loop-number.invariant.back);
    }
