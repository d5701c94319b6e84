use Rattle.std.proofs.Common.{◌≡◌, ◌++◌, drop}
use Rattle.std.specs.BTreeMap.{get}
use Rattle.text_edits.specs.Views.{occ_cmp}
use Rattle.program_differences.specs.Exported.{changes_as}
use Rattle.rename_planner.specs.Changes.{changes_among, unit_changes}
use Rattle.rename_planner.proofs.planning.change_unit.Given as goal

-- those of the exports gone through, before those that are left
abbrev pub invariant-loop-number : goal.invariant-loop-number
invariant-loop-number l =
    changes_as l.changes ++ changes_among (λ o. get occ_cmp l.members o) l.place l.unit.names (drop l.number l.unit.exports)
    ≡ changes_as l.initial.changes ++ unit_changes (λ o. get occ_cmp l.members o) l.place l.unit
