use Rattle.std.proofs.Common.{◌≡◌}
use Rattle.std.specs.Prelude.{nat_le, max}
use Rattle.scheme_model.specs.Trees.{Trees, Tail}
use Rattle.scheme_model.specs.Matching.{behind}
use Rattle.scheme_model.specs.Measures.{trees_depth, tail_depth}
use Rattle.scheme_model.specs.Ident.{Ident as Identifier}
use Rattle.syntax_tree.specs.Looks.{PartsStand}
use Rattle.rules_build.proofs.measure.behind_fits.Given as goal

abbrev pub invariant-loop-k : goal.invariant-loop-k
invariant-loop-k l =
    (ts : Trees Identifier) (tail : Tail Identifier) → PartsStand l.work l.items ts →
    nat_le (max (trees_depth (behind l.from ts)) (tail_depth tail)) l.left ≡ nat_le (max (trees_depth (behind l.k ts)) (tail_depth tail)) l.left
