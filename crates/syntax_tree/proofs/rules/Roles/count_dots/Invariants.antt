use Rattle.std.proofs.Common.{◌≡◌, ◌+◌, ◌≤◌, length}
use Rattle.scheme_model.specs.Trees.{Trees}
use Rattle.scheme_model.specs.RulesShape.{Rules, dots_of, dots_count}
use Rattle.scheme_model.specs.Matching.{behind}
use Rattle.scheme_model.specs.Ident.{Ident as Identifier}
use Rattle.syntax_tree.specs.Looks.{PartsStand}
use Rattle.syntax_tree.specs.Macros.{identifiers, TellsRoles}
use Rattle.syntax_tree.proofs.rules.Roles.count_dots.Given as goal

abbrev pub invariant-loop-k : goal.invariant-loop-k
invariant-loop-k l =
    (l.count + l.from ≤ l.k) × (l.count ≤ length l.items) × ((r : Rules Identifier) (ts : Trees Identifier) → TellsRoles l.work.symbols l.self r → PartsStand l.work l.items ts →
    l.count + dots_count (dots_of identifiers r) (behind l.k ts) ≡ dots_count (dots_of identifiers r) (behind l.from ts))
