use Rattle.std.proofs.Common.{◌+◌, ◌*◌, ◌-◌, ◌≤◌, length}
use Rattle.std.specs.Prelude.{Bool}
use Rattle.scheme_model.specs.Trees.{Tree, Trees}
use Rattle.scheme_model.specs.RulesShape.{Rules}
use Rattle.scheme_model.specs.Matching.{matcher}
use Rattle.scheme_model.specs.Ident.{Ident as Identifier}
use Rattle.syntax_tree.specs.Looks.{PartsStand, AllNamed}
use Rattle.syntax_tree.specs.declared.trees.table.Region.{Region}
use Rattle.syntax_tree.specs.Macros.{identifiers}
use Rattle.syntax_tree.specs.Works.{StandsFor}
use Rattle.rules_match.specs.Found.{Knows, FoundNamed, ColumnsNamed}
use Rattle.rules_match.proofs.Steps.{UpTo}
use Rattle.rules_match.proofs.EachLaws.{PlacesUpTo}
use Rattle.rules_match.proofs.matching.Matcher.+matching.Given as goal

abbrev pub decreases-tree : goal.decreases-tree
decreases-tree l = 3 * l.left

abbrev pub decreases-parts : goal.decreases-parts
decreases-parts l = 3 * l.left + 2

abbrev pub decreases-rest : goal.decreases-rest
decreases-rest l = 3 * l.left + 1

abbrev pub decreases-each : goal.decreases-each
decreases-each l = 3 * l.left + 1

abbrev pub decreases-parts-loop-k : goal.decreases-parts-loop-k
decreases-parts-loop-k l = length l.pattern - l.k

abbrev pub invariant-parts-loop-k : goal.invariant-parts-loop-k
invariant-parts-loop-k l =
    (l.j ≤ length l.form) × ((r : Rules Identifier) (same : Identifier → Identifier → Bool) (ps ts : Trees Identifier) → Knows l.self r same → PartsStand l.self.work.now l.pattern ps → PartsStand l.self.work.now l.form ts →
    UpTo l.self.work.now (matcher identifiers r same) ps ts l.from l.k l.j l.fn.found l.found)
    × ((region : Region) → AllNamed l.self.work.now region l.form → FoundNamed l.self.work.now region l.fn.found → FoundNamed l.self.work.now region l.found)

abbrev pub invariant-each-loop-form : goal.invariant-each-loop-form
invariant-each-loop-form l =
    ((r : Rules Identifier) (same : Identifier → Identifier → Bool) (p : Tree Identifier) (ts : Trees Identifier) → Knows l.self r same → StandsFor l.self.work.now l.pattern p → PartsStand l.self.work.now l.forms ts →
    PlacesUpTo l.self.work.now (matcher identifiers r same) p ts l.form-index l.fn.found l.found l.columns.items)
    × ((region : Region) → AllNamed l.self.work.now region l.forms → FoundNamed l.self.work.now region l.fn.found → FoundNamed l.self.work.now region l.found × ColumnsNamed l.self.work.now region l.columns.items)
