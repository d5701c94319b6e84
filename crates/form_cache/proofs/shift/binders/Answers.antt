use Rattle.std.proofs.Common.{◌<◌, length, set, ap, ◌∙◌, arith}
use Rattle.std.proofs.lemmas.List.Edits.{map_over_more}
use Rattle.form_cache.specs.Shifted.{binder_shifted}
use Rattle.form_cache.proofs.Fronts.{map_over_all}
use Rattle.form_cache.proofs.shift.binders.Goals as goal

pub loop-i-preserved : goal.loop-i-preserved
loop-i-preserved c =
    let xs = c.args.all.now.items in
    let ys = c.loop-i.all.items in
    let lt : c.loop-i.i < length xs = omega arith in
    ap (set ys c.loop-i.i) c.binder.ensures ∙ map_over_more (binder_shifted c.args.shift) xs ys c.loop-i.i c.index.result.now lt c.loop-i.invariant c.index.ensures

pub returns : goal.returns
returns c = map_over_all (binder_shifted c.args.shift) c.args.all.now.items c.loop-i.all.items c.loop-i.i (omega arith) c.loop-i.invariant
