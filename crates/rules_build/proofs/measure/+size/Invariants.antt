use Rattle.std.proofs.Common.{◌≡◌}
use Rattle.scheme_model.specs.Identifiers.{Number}
use Rattle.scheme_model.specs.Trees.{no_trees}
use Rattle.scheme_model.specs.Measures.{trees_size}
use Rattle.syntax_tree.specs.declared.trees.table.Region.{Region}
use Rattle.rules_build.specs.Drafts.{spent, Drafts, AreDrafts, row_of}
use Rattle.rules_build.proofs.DraftRows.{drafts_behind}
use Rattle.rules_build.proofs.measure.+size.Given as goal

abbrev pub invariant-take_sizes-loop-plan : goal.invariant-take_sizes-loop-plan
invariant-take_sizes-loop-plan l =
    (region : Region) (k : Number) (ds : Drafts) → AreDrafts l.work region l.plans ds →
    spent l.fn.room (trees_size (row_of k ds no_trees)) ≡ spent l.room (trees_size (row_of k (drafts_behind l.plan-index ds) no_trees))
