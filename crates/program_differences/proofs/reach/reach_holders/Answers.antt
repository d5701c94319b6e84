use Rattle.std.proofs.Common.{sym, ap, ◌∙◌, arith}
use Rattle.program_differences.specs.Reached.{with_holder}
use Rattle.program_differences.proofs.ReachLaws.{holders_more}
use Rattle.program_differences.proofs.reach.reach_holders.Goals as goal

pub loop-place-preserved : goal.loop-place-preserved
loop-place-preserved c = λ sorted.
    let units = c.args.units.now in
    holders_more c.args.occs.now units c.loop-place.reached.items c.reach_holder.new.reached.items c.loop-place.place c.index-units-place.result (omega arith) (ap (λ u. with_holder c.args.occs.now c.loop-place.place u c.loop-place.reached.items) (sym c.index-units-place.is) ∙ sym (c.reach_holder.ensures sorted)) ∙ c.loop-place.invariant sorted
