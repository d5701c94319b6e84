use Rattle.std.proofs.Common.{◌+◌, ◌++◌, List, [], map, take, refl, sym, ap, ◌∙◌, arith}
use Rattle.scheme_model.specs.declared.Occ.{Occ}
use Rattle.scheme_model.specs.Spelling.{links_to_themselves}
use Rattle.core_tree.specs.declared.units.Unit.{Unit as CodeUnit}
use Rattle.program_leaves.specs.Sights.{all_seconds}
use Rattle.arrow_index.specs.Links.{as_link}
use Rattle.program_leaves.proofs.Growing.{grows_as, grows_by_none, grows_twice, flat_more, flat_all}
use Rattle.arrow_index.proofs.LinkLaws.{themselves-append}
use Rattle.arrow_index.proofs.use_links.link_seconds.Goals as goal

pub loop-unit-init : goal.loop-unit-init
loop-unit-init c = grows_by_none as_link c.args.links.now.items [] refl

pub loop-unit-preserved : goal.loop-unit-preserved
loop-unit-preserved c =
    let us = c.args.units.now in
    let i = c.loop-unit.unit-index in
    let u = c.unit-item.result in
    let more = flat_more (λ (x : CodeUnit). x.seconds) us i u (omega arith) c.unit-item.is in
    grows_twice as_link c.args.links.now.items c.loop-unit.links.items c.link_themselves.new.links.items (links_to_themselves (all_seconds (take i us))) (links_to_themselves u.seconds) (links_to_themselves (all_seconds (take (i + 1) us))) c.loop-unit.invariant
    (c.in_ok-link_themselves.ensures ∙ ap (λ (os : List Occ). map as_link c.loop-unit.links.items ++ links_to_themselves os) c.as_slice.ensures) (ap links_to_themselves more ∙ themselves-append (all_seconds (take i us)) u.seconds)

pub returns : goal.returns
returns c =
    let us = c.args.units.now in
    grows_as as_link c.args.links.now.items c.loop-unit.links.items _ _ c.loop-unit.invariant (ap links_to_themselves (sym (flat_all (λ (x : CodeUnit). x.seconds) us c.loop-unit.unit-index (omega arith))))
