use Rattle.std.proofs.Common.{◌≡◌}
use Rattle.std.specs.Prelude.{nat_le}
use Rattle.scheme_model.specs.Identifiers.{Number}
use Rattle.scheme_model.specs.Trees.{no_trees}
use Rattle.scheme_model.specs.Measures.{trees_depth}
use Rattle.syntax_tree.specs.declared.trees.table.Region.{Region}
use Rattle.rules_build.specs.Drafts.{Drafts, AreDrafts, row_of}
use Rattle.rules_build.proofs.DraftRows.{drafts_behind}
use Rattle.rules_build.proofs.measure.+depth.Given as goal

abbrev pub invariant-all_fit-loop-plan : goal.invariant-all_fit-loop-plan
invariant-all_fit-loop-plan l =
    (region : Region) (k : Number) (ds : Drafts) → AreDrafts l.work region l.plans ds →
    nat_le (trees_depth (row_of k ds no_trees)) l.left ≡ nat_le (trees_depth (row_of k (drafts_behind l.plan-index ds) no_trees)) l.left
