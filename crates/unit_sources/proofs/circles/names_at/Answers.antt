use Rattle.std.proofs.Common.{get_or, refl, arith}
use Rattle.unit_sources.specs.Graphs.{name_at}
use Rattle.import_sets.proofs.ReachLaws.{in_at}
use Rattle.unit_sources.proofs.CircleLaws.{names_next}
use Rattle.unit_sources.proofs.circles.names_at.Goals as goal

pub push_name_at-requires : goal.push_name_at-requires
push_name_at-requires c = c.requires (get_or c.args.places.now c.loop-place.place-index 0) (in_at c.args.places.now c.loop-place.place-index (omega arith))

pub loop-place-preserved : goal.loop-place-preserved
loop-place-preserved c =
    names_next c.args.units.now c.args.places.now c.loop-place.place-index (name_at c.args.units.now (get_or c.args.places.now c.loop-place.place-index 0)) c.loop-place.names c.push_name_at.new.names
    (omega arith) refl c.loop-place.invariant c.in_ok-push_name_at.ensures
