-- The tokens of one form more.
use Rattle.std.proofs.Common.{arith}
use Rattle.document_units.proofs.RangeLaws.{range_added}
use Rattle.document_units.proofs.listing.ranges_of.Goals as goal

pub loop-place-preserved : goal.loop-place-preserved
loop-place-preserved c =
    let l = c.loop-place in
    let f = c.index-forms-place.result in
    range_added c.args.unit l.place c.args.forms.now f l.ranges.items c.push.new.self.items c.in_ok-number.number c.home_in.result (omega arith) c.index-forms-place.is l.invariant c.in_ok-number.ensures c.home_in.ensures c.in_ok-push.ensures.items
