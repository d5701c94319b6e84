use Rattle.std.proofs.Common.{◌≡◌, ◌++◌, drop}
use Rattle.std.specs.BTreeMap.{get}
use Rattle.text_edits.specs.Views.{occ_cmp}
use Rattle.program_differences.specs.Exported.{changes_as}
use Rattle.rename_planner.specs.Changes.{all_changes}
use Rattle.rename_planner.proofs.planning.changes.Given as goal

-- those of the units gone through, before those that are left
abbrev pub invariant-loop-place : goal.invariant-loop-place
invariant-loop-place l =
    changes_as l.changes ++ all_changes (λ o. get occ_cmp l.members o) l.place (drop l.place l.units) ≡ all_changes (λ o. get occ_cmp l.members o) 0 l.units
