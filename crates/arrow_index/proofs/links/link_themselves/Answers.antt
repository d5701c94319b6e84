use Rattle.std.proofs.Common.{[], ◌∷◌, ◌+◌, take, get_or, refl, sym, ap, ◌∙◌, arith}
use Rattle.std.proofs.lemmas.List.{take_more, take_all}
use Rattle.scheme_model.specs.declared.Occ.{Occ}
use Rattle.scheme_model.specs.Spelling.{links_to_themselves}
use Rattle.program_leaves.proofs.Growing.{grows_as, grows_by_none, grows_twice}
use Rattle.arrow_index.specs.Links.{as_link}
use Rattle.arrow_index.proofs.LinkLaws.{themselves-append}
use Rattle.arrow_index.proofs.links.link_themselves.Goals as goal

pub loop-place-init : goal.loop-place-init
loop-place-init c = grows_by_none as_link c.args.links.now.items [] refl

pub loop-place-preserved : goal.loop-place-preserved
loop-place-preserved c =
    let k = c.loop-place.place-index in
    let xs = c.args.places.now in
    let d : Occ = record { unit = 0; form = 0; token = 0 } in
    let x = get_or xs k d in
    grows_twice as_link c.args.links.now.items c.loop-place.links.items c.add_place_link.new.links.items (links_to_themselves (take k xs)) (links_to_themselves (x ∷ [])) (links_to_themselves (take (k + 1) xs)) c.loop-place.invariant
    c.in_ok-add_place_link.ensures (ap links_to_themselves (take_more xs k d (omega arith)) ∙ themselves-append (take k xs) (x ∷ []))

pub returns : goal.returns
returns c =
    grows_as as_link c.args.links.now.items c.loop-place.links.items _ _ c.loop-place.invariant (ap links_to_themselves (sym (take_all c.loop-place.place-index c.args.places.now (omega arith))))
