use Rattle.std.proofs.Common.{◌≡◌, drop}
use Rattle.std.specs.Prelude.{Bool}
use Rattle.scheme_model.specs.Trees.{Trees, Tail}
use Rattle.scheme_model.specs.RulesShape.{Rules}
use Rattle.scheme_model.specs.Matching.{behind, first_match, matcher}
use Rattle.scheme_model.specs.Ident.{Ident as Identifier}
use Rattle.syntax_tree.specs.Macros.{identifiers, AreRules}
use Rattle.rules_match.specs.Found.{Knows}
use Rattle.rules_match.specs.Rows.{IsListRow}
use Rattle.rules_match.proofs.matching_rule.Given as goal

abbrev pub invariant-loop-k : goal.invariant-loop-k
invariant-loop-k l =
    (r : Rules Identifier) (same : Identifier → Identifier → Bool) (ts : Trees Identifier) (end : Tail Identifier) → Knows l.matching r same → AreRules l.matching.work.now l.rules r.rules →
    IsListRow l.matching.work.now l.form l.row ts end →
    first_match (matcher identifiers r same) r.rules (behind 1 ts) end ≡ first_match (matcher identifiers r same) (drop l.k r.rules) (behind 1 ts) end
