use Rattle.std.proofs.Common.{List, [], ◌∷◌, ◌+◌, map, take, get_or, refl, sym, ap, ◌∙◌, arith}
use Rattle.std.proofs.lemmas.List.{map-append, take_more, take_all}
use Rattle.scheme_model.specs.declared.Occ.{Occ}
use Rattle.scheme_model.specs.Spelling.{arrow_links}
use Rattle.program_leaves.specs.declared.pairs.Pair.{Pair}
use Rattle.program_leaves.specs.Pairs.{as_arrow}
use Rattle.program_leaves.proofs.Growing.{grows_as, grows_by_none, grows_twice}
use Rattle.arrow_index.specs.Links.{as_link}
use Rattle.arrow_index.proofs.LinkLaws.{arrows-append}
use Rattle.arrow_index.proofs.links.link_arrows.Goals as goal

pub loop-pair-init : goal.loop-pair-init
loop-pair-init c = grows_by_none as_link c.args.links.now.items [] refl

pub loop-pair-preserved : goal.loop-pair-preserved
loop-pair-preserved c =
    let k = c.loop-pair.pair-index in
    let xs = c.args.pairs.now in
    let none : Occ = record { unit = 0; form = 0; token = 0 } in
    let d : Pair = record { binder = none; target = none } in
    let x = get_or xs k d in
    grows_twice as_link c.args.links.now.items c.loop-pair.links.items c.add_place_link.new.links.items (arrow_links (map as_arrow (take k xs))) (arrow_links (as_arrow x ∷ [])) (arrow_links (map as_arrow (take (k + 1) xs))) c.loop-pair.invariant
    c.in_ok-add_place_link.ensures (ap (λ (q : List Pair). arrow_links (map as_arrow q)) (take_more xs k d (omega arith)) ∙ ap arrow_links (map-append as_arrow (take k xs) (x ∷ [])) ∙ arrows-append (map as_arrow (take k xs)) (as_arrow x ∷ []))

pub returns : goal.returns
returns c =
    grows_as as_link c.args.links.now.items c.loop-pair.links.items _ _ c.loop-pair.invariant (ap (λ (q : List Pair). arrow_links (map as_arrow q)) (sym (take_all c.loop-pair.pair-index c.args.pairs.now (omega arith))))
