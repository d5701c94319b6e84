use Rattle.std.proofs.Common.{◌≡◌, ◌++◌, ◌<◌, ℕ, List, Option, length, sym, ap, ◌∙◌, arith}
use Rattle.std.specs.BTreeMap.{get}
use Rattle.scheme_model.specs.declared.Occ.{Occ}
use Rattle.text_edits.specs.Views.{occ_cmp}
use Rattle.program_differences.specs.Exported.{changes_as}
use Rattle.rename_planner.specs.Changes.{all_changes, unit_changes}
use Rattle.rename_planner.proofs.LoopLaws.{unit_more}
use Rattle.rename_planner.proofs.planning.changes.Goals as goal

pub loop-place-preserved : goal.loop-place-preserved
loop-place-preserved c =
    let name : Occ → Option (List ℕ) = λ o. get occ_cmp c.args.members.now o in
    let i = c.loop-place.place in
    let u = c.index-units-place.result in
    let lt : i < length c.args.units.now = omega arith in
    unit_more name c.args.units.now i u (changes_as c.loop-place.changes) (changes_as c.change_unit.new.changes) (all_changes name 0 c.args.units.now) lt c.index-units-place.is
    (c.in_ok-change_unit.ensures ∙ ap (λ n. changes_as c.loop-place.changes ++ unit_changes name n u) c.in_ok-number_of.ensures) c.loop-place.invariant
