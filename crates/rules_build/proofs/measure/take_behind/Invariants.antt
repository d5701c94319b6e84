use Rattle.std.proofs.Common.{◌≡◌, ◌+◌}
use Rattle.scheme_model.specs.Trees.{Trees, Tail}
use Rattle.scheme_model.specs.Matching.{behind}
use Rattle.scheme_model.specs.Measures.{trees_size, tail_size}
use Rattle.scheme_model.specs.Ident.{Ident as Identifier}
use Rattle.syntax_tree.specs.Looks.{PartsStand}
use Rattle.rules_build.specs.Drafts.{spent}
use Rattle.rules_build.proofs.measure.take_behind.Given as goal

abbrev pub invariant-loop-k : goal.invariant-loop-k
invariant-loop-k l =
    (ts : Trees Identifier) (tail : Tail Identifier) → PartsStand l.work l.items ts →
    spent l.fn.room (trees_size (behind l.from ts) + tail_size tail) ≡ spent l.room (trees_size (behind l.k ts) + tail_size tail)
