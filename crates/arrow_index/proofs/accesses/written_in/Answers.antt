use Rattle.std.proofs.Common.{◌++◌, List, map, sym, ap, ◌∙◌, subst}
use Rattle.scheme_model.specs.declared.Occ.{Occ}
use Rattle.scheme_model.specs.ProgramArrows.{program_leaves}
use Rattle.scheme_model.specs.Accesses.{assigned_in}
use Rattle.program_leaves.specs.Placed.{placed_of, AreAllSeen}
use Rattle.program_leaves.specs.declared.sight.PlacedLeaf.{PlacedLeaf}
use Rattle.arrow_index.proofs.AccessLaws.{written_law}
use Rattle.arrow_index.proofs.accesses.written_in.Goals as goal

pub returns : goal.returns
returns c = λ w all p sees are.
    let ls = program_leaves p.units in
    let seen = subst (λ (xs : List PlacedLeaf). AreAllSeen w (map placed_of xs) ls) (sym c.as_slice.ensures.value) sees.leaves_are in
    let bound = c.in_ok-extend_from_slice.ensures.items ∙ ap (λ (q : List Occ). q ++ c.args.binders.now) c.new-places.ensures.items in
    written_law p c.args.binders.now c.add_all_assigned.new.places.items c.in_ok-occs_in_order.field-0 are (c.in_ok-add_all_assigned.ensures w ls seen ∙ ap (λ (q : List Occ). q ++ assigned_in ls) bound) c.in_ok-occs_in_order.ensures
