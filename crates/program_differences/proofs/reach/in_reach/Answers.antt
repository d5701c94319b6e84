use Rattle.std.proofs.Common.{List, length, ap, sym, ◌∙◌, subst}
use Rattle.std.specs.Prelude.{Bool}
use Rattle.scheme_model.specs.declared.Occ.{Occ}
use Rattle.program_differences.specs.Reached.{AreInOrder, with_holders, in_rounds, marks_from}
use Rattle.program_differences.proofs.ReachLaws.{reach_is}
use Rattle.program_differences.proofs.reach.in_reach.Goals as goal

pub returns : goal.returns
returns c = λ rs have.
    let units = c.args.units.now in
    let occs = c.as_slice.result.now in
    let order : AreInOrder c.args.occs.now occs = subst (λ (os : List Occ). AreInOrder c.args.occs.now os) (sym c.as_slice.ensures.value) c.in_ok-occs.ensures in
    c.in_ok-places_of.ensures
    ∙ ap (marks_from 0) (c.as_slice-2.ensures.value ∙ c.reach_all.ensures ∙ ap (λ (bs : List Bool). in_rounds (length units) units bs) (c.reach_holders.ensures order.sorted ∙ ap (with_holders occs 0 units) c.in_ok-reached.ensures))
    ∙ reach_is units rs c.args.occs.now occs have order.same
