use Rattle.std.proofs.Common.{◌++◌, List, map, sym, ap, ◌∙◌, subst}
use Rattle.scheme_model.specs.declared.Occ.{Occ}
use Rattle.scheme_model.specs.ProgramArrows.{program_leaves}
use Rattle.scheme_model.specs.Accesses.{referred_in}
use Rattle.arrow_index.specs.Keywords.{units_keywords}
use Rattle.program_leaves.specs.Placed.{placed_of, AreAllSeen}
use Rattle.program_leaves.specs.declared.sight.PlacedLeaf.{PlacedLeaf}
use Rattle.arrow_index.proofs.AccessLaws.{read_law}
use Rattle.arrow_index.proofs.accesses.read_in.Goals as goal

pub returns : goal.returns
returns c = λ w text uris all p h sees.
    let ls = program_leaves p.units in
    let seen = subst (λ (xs : List PlacedLeaf). AreAllSeen w (map placed_of xs) ls) (sym c.as_slice.ensures.value) sees.leaves_are in
    let referred = c.in_ok-add_all_referred.ensures w ls seen ∙ ap (λ (q : List Occ). q ++ referred_in ls) c.new-places.ensures.items in
    read_law w text uris all p c.args.program.now.units c.add_all_keywords.new.places.items c.in_ok-occs_in_order.field-0 h (c.in_ok-add_all_keywords.ensures ∙ (λ j. referred j ++ units_keywords (c.as_slice-2.ensures j))) c.in_ok-occs_in_order.ensures
