use Rattle.std.proofs.Common.{◌∙◌, arith}
use Rattle.std.specs.BTreeMap.{get_by_text}
use Rattle.unit_sources.specs.Named.{place_named}
use Rattle.unit_sources.proofs.NamedLaws.{later_find, later_next}
use Rattle.unit_sources.proofs.repeats.later_places.Goals as goal

pub loop-place-preserved : goal.loop-place-preserved
loop-place-preserved c =
    let us = c.args.units.now in
    let i = c.loop-place.place in
    let u = c.index-units-place.result in
    later_next us i u c.is_later.result c.loop-place.places c.push_if.new.places (omega arith) c.index-units-place.is
    (c.is_later.ensures ∙ later_find (λ s. get_by_text c.args.firsts.now s) (λ s. place_named s 0 us) c.requires.firsts i u.name) c.in_ok-push_if.ensures
    ∙ c.loop-place.invariant
