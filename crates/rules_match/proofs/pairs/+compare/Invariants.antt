use Rattle.std.proofs.Common.{◌+◌, ◌*◌, ◌-◌, ◌≤◌, length}
use Rattle.scheme_model.specs.Trees.{Tree, Trees, Tail}
use Rattle.scheme_model.specs.RulesShape.{Rules, role_of, dots_of}
use Rattle.scheme_model.specs.Matching.{pairs_in, pairs_behind}
use Rattle.scheme_model.specs.Ident.{Ident as Identifier}
use Rattle.syntax_tree.specs.Looks.{PartsStand}
use Rattle.syntax_tree.specs.Macros.{identifiers, TellsRoles}
use Rattle.syntax_tree.specs.Works.{StandsFor}
use Rattle.rules_match.specs.Rows.{IsRow}
use Rattle.rules_match.proofs.PairSteps.{PairsUpTo, EachUpTo}
use Rattle.rules_match.proofs.pairs.+compare.Given as goal

abbrev pub decreases-compare : goal.decreases-compare
decreases-compare l = 3 * l.left

abbrev pub decreases-compare_list : goal.decreases-compare_list
decreases-compare_list l = 3 * l.left + 2

abbrev pub decreases-compare_each : goal.decreases-compare_each
decreases-compare_each l = 3 * l.left + 1

abbrev pub decreases-compare_rest : goal.decreases-compare_rest
decreases-compare_rest l = 3 * l.left + 1

abbrev pub decreases-compare_list-loop-k : goal.decreases-compare_list-loop-k
decreases-compare_list-loop-k l = length l.pattern.items.now - l.k

abbrev pub invariant-compare_list-loop-k : goal.invariant-compare_list-loop-k
invariant-compare_list-loop-k l =
    (l.j ≤ length l.form.items.now) × ((r : Rules Identifier) (ps : Trees Identifier) (tail : Tail Identifier) (ts : Trees Identifier) (end : Tail Identifier) → TellsRoles l.work.symbols l.roles r →
    IsRow l.work l.pattern ps tail → IsRow l.work l.form ts end →
    PairsUpTo (role_of identifiers r) (dots_of identifiers r) (pairs_behind (role_of identifiers r) (dots_of identifiers r) tail) l.work l.fn.pairs l.pairs ps ts end l.from l.k l.j)

abbrev pub invariant-compare_each-loop-form : goal.invariant-compare_each-loop-form
invariant-compare_each-loop-form l =
    (r : Rules Identifier) (p : Tree Identifier) (ts : Trees Identifier) → TellsRoles l.work.symbols l.roles r → StandsFor l.work l.pattern p → PartsStand l.work l.forms ts →
    EachUpTo l.work l.fn.pairs l.pairs (λ t. pairs_in (role_of identifiers r) (dots_of identifiers r) p t) ts l.form-index
