use Rattle.std.proofs.Common.{◌++◌, List, map, sym, ap, ◌∙◌, subst}
use Rattle.scheme_model.specs.declared.Occ.{Occ}
use Rattle.scheme_model.specs.ProgramArrows.{leaf_binders, program_leaves}
use Rattle.program_leaves.specs.declared.sight.PlacedLeaf.{PlacedLeaf}
use Rattle.program_leaves.specs.Placed.{placed_of, AreAllSeen}
use Rattle.arrow_index.specs.Binders.{unit_places}
use Rattle.arrow_index.proofs.BinderLaws.{binders_law}
use Rattle.arrow_index.proofs.binders.binders_in.Goals as goal

pub add_core_binders-requires : goal.add_core_binders-requires
add_core_binders-requires c =
    (c.requires.0, subst (λ (xs : List PlacedLeaf). AreAllSeen c.args.work.now (map placed_of xs) c.requires.0) (sym c.as_slice.ensures.value) c.requires.1)

pub returns : goal.returns
returns c = λ text uris all p h sees o.
    let w = c.args.work.now in
    let ls = program_leaves p.units in
    let seen = subst (λ (xs : List PlacedLeaf). AreAllSeen w (map placed_of xs) ls) (sym c.as_slice.ensures.value) sees.leaves_are in
    let one = c.in_ok-add_core_binders.ensures ls seen ∙ ap (λ (q : List Occ). q ++ leaf_binders ls) c.new-places.ensures.items in
    binders_law w text uris all p c.args.program.now.units c.add_unit_places.new.places.items o h (c.in_ok-add_unit_places.ensures ∙ (λ j. one j ++ unit_places (c.as_slice-2.ensures j)))
