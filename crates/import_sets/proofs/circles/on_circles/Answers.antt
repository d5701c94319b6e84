use Rattle.import_sets.specs.Graphs.{is_circular}
use Rattle.import_sets.proofs.CircleLaws.{passing_next, below_next}
use Rattle.import_sets.proofs.circles.on_circles.Goals as goal

pub loop-place-preserved : goal.loop-place-preserved
loop-place-preserved c = record {
  circular = λ ps is.
      passing_next (is_circular ps) c.loop-place.place c.in_ok-circular.circular c.loop-place.places c.push_if.new.places (c.in_ok-circular.ensures ps is) (c.loop-place.invariant.circular ps is) c.in_ok-push_if.ensures;
  below = λ n h. below_next c.loop-place.place n c.in_ok-circular.circular c.loop-place.places c.push_if.new.places c.loop-place.invariant.below c.in_ok-push_if.ensures h;
}
