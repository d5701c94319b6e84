use Rattle.std.proofs.Common.{suc, List, [], ◌++◌, refl, sym, ap, ◌∙◌, arith, drop}
use Rattle.std.proofs.lemmas.List.{append-nil}
use Rattle.rename_model.specs.Walks.{Slot, filled}
use Rattle.program_leaves.proofs.AddLaws.{adds_none, adds_same}
use Rattle.alpha_equal.specs.declared.slots.Slot as code
use Rattle.alpha_equal.specs.declared.slots.Slot.TheVariants as slot
use Rattle.std.specs.Prelude.{None}
use Rattle.alpha_equal.specs.declared.nodes.Node.TheVariants as nodes
use Rattle.alpha_equal.specs.declared.points.Spot.TheVariants as spots
use Rattle.alpha_equal.specs.declared.points.Seen.TheVariants as seen
use Rattle.alpha_equal.specs.declared.points.Shown.TheVariants as shown
use Rattle.alpha_equal.specs.Points.{IsPoint}
use Rattle.alpha_equal.specs.Slots.{IsSlot}
use Rattle.alpha_equal.proofs.CompareLaws.{match_at, match_past}
use Rattle.alpha_equal.proofs.MeaningLaws.{filled_more}
use Rattle.alpha_equal.proofs.slots.fill.Goals as goal

pub loop-k-init : goal.loop-k-init
loop-k-init c = λ table unit form ss ls knows slots leaves. record { so_far = []; adds = adds_none (IsPoint c.args.work.now.symbols unit form) c.args.points.now.items; whole = refl }

pub loop-k-preserved : goal.loop-k-preserved
loop-k-preserved c = λ table unit form ss ls knows slots leaves.
    let names = c.args.work.now.symbols in
    let k = c.loop-k.k in
    let d : code.Slot = slot.Fixed (record { told = record { spot = spots.Use; occ = None; shown = shown.Nothing }; seen = seen.Node nodes.Reference }) in
    let inv = c.loop-k.invariant table unit form ss ls knows slots leaves in
    let o = match_at (IsSlot names unit form) c.args.slots.now ss k d slots (omega arith) in
    let one = c.in_ok-next.ensures table unit form o.it ls knows o.holds leaves in
    filled_more names unit form table c.args.points.now.items c.loop-k.points.items c.fill_one.new.points.items ss ls k c.loop-k.next _ one.here inv (ap (λ (q : List Slot). filled table q (drop c.loop-k.next ls)) o.is ∙ one.more (drop (suc k) ss)) one.adds

pub returns : goal.returns
returns c = λ table unit form ss ls knows slots leaves.
    let names = c.args.work.now.symbols in
    let k = c.loop-k.k in
    let inv = c.loop-k.invariant table unit form ss ls knows slots leaves in
    let past = match_past (IsSlot names unit form) c.args.slots.now ss k slots (omega arith) in
    adds_same (IsPoint names unit form) c.args.points.now.items c.loop-k.points.items inv.so_far (filled table ss ls)
    (sym (append-nil inv.so_far) ∙ ap (λ (q : List Slot). inv.so_far ++ filled table q (drop c.loop-k.next ls)) (sym past) ∙ inv.whole) inv.adds
