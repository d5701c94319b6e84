use Rattle.std.proofs.Common.{◌≡◌, ◌+◌}
use Rattle.scheme_model.specs.Trees.{Trees}
use Rattle.scheme_model.specs.RulesShape.{Rules, starts_dots, leading}
use Rattle.scheme_model.specs.Matching.{behind}
use Rattle.scheme_model.specs.Ident.{Ident as Identifier}
use Rattle.syntax_tree.specs.Looks.{PartsStand}
use Rattle.syntax_tree.specs.Macros.{TellsRoles}
use Rattle.rules_build.specs.Builds.{dots_where}
use Rattle.rules_build.proofs.walk.Walk.leading.Given as goal

abbrev pub invariant-loop-k : goal.invariant-loop-k
invariant-loop-k l =
    (l.from + l.count ≡ l.k)
    × ((r : Rules Identifier) (ts : Trees Identifier) → TellsRoles l.self.work.now.symbols l.self.roles.now r → PartsStand l.self.work.now l.items ts → l.first ≡ starts_dots (dots_where l.escaped r) (behind l.from ts) →
    (l.dots ≡ starts_dots (dots_where l.escaped r) (behind l.k ts)) × (leading (dots_where l.escaped r) (behind l.from ts) ≡ l.count + leading (dots_where l.escaped r) (behind l.k ts)))
