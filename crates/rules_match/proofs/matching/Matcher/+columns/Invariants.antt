use Rattle.std.proofs.Common.{◌+◌, ◌*◌}
use Rattle.scheme_model.specs.Trees.{Trees}
use Rattle.scheme_model.specs.RulesShape.{Rules, role_of}
use Rattle.scheme_model.specs.Ident.{Ident as Identifier}
use Rattle.syntax_tree.specs.Looks.{PartsStand}
use Rattle.syntax_tree.specs.Macros.{identifiers}
use Rattle.rules_match.specs.Found.{Knows}
use Rattle.rules_match.proofs.VariableLaws.{ColumnsUpTo}
use Rattle.rules_match.proofs.matching.Matcher.+columns.Given as goal
use Rattle.std.specs.Prelude.{Bool}

abbrev pub decreases-columns : goal.decreases-columns
decreases-columns l = 2 * l.left

abbrev pub decreases-columns_among : goal.decreases-columns_among
decreases-columns_among l = 2 * l.left + 1

abbrev pub invariant-columns_among-loop-part : goal.invariant-columns_among-loop-part
invariant-columns_among-loop-part l =
    (r : Rules Identifier) (same : Identifier → Identifier → Bool) (ps : Trees Identifier) → Knows l.self r same → PartsStand l.self.work.now l.parts ps →
    ColumnsUpTo l.self.work.now l.fn.columns l.columns (role_of identifiers r) ps l.part-index
