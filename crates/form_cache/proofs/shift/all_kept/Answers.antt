use Rattle.std.proofs.Common.{◌<◌, ◌≤◌, length, arith}
use Rattle.form_cache.specs.Shifted.{ItemShifts}
use Rattle.form_cache.proofs.Fronts.{front_more, front_all}
use Rattle.form_cache.proofs.shift.all_kept.Goals as goal

pub loop-i-preserved : goal.loop-i-preserved
loop-i-preserved c =
    let lt : c.loop-i.i < length c.loop-i.all.items = omega (arith, c.loop-i.invariant.length_is) in
    front_more (ItemShifts c.args.shift) c.args.all.now.items c.loop-i.all.items c.loop-i.i c.index_mut.result.now (record { kept = c.kept.new.it }) c.loop-i.invariant lt c.index_mut.ensures.value c.kept.ensures

pub returns : goal.returns
returns c =
    let end : length c.loop-i.all.items ≤ c.loop-i.i = omega (arith, c.loop-i.invariant.length_is) in
    front_all (ItemShifts c.args.shift) c.args.all.now.items c.loop-i.all.items c.loop-i.i c.loop-i.invariant end
