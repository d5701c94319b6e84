use Rattle.std.proofs.Common.{arith}
use Rattle.std.specs.BTreeMap.{get_by_text}
use Rattle.unit_sources.specs.declared.units.UnitSource.{UnitSource}
use Rattle.unit_sources.specs.Named.{is_name}
use Rattle.import_sets.proofs.FirstLaws.{first_step}
use Rattle.unit_sources.proofs.firsts.first_places.Goals as goal

pub loop-place-preserved : goal.loop-place-preserved
loop-place-preserved c = λ s.
    first_step (λ (u : UnitSource). is_name s u.name) c.args.units.now c.loop-place.place c.index-units-place.result (get_by_text c.loop-place.places s) (get_by_text c.note_unit.new.places s)
    (omega arith) c.index-units-place.is (c.loop-place.invariant s) (c.in_ok-note_unit.ensures s)
