use Rattle.std.proofs.Common.{◌≡◌, ◌↔◌, List, drop}
use Rattle.scheme_model.specs.Ident.{Ident as Identifier}
use Rattle.scheme_model.specs.RulesShape.{Rule}
use Rattle.syntax_tree.specs.Macros.{AreRules}
use Rattle.equal_trees.proofs.rules.all_same.Given as goal

abbrev pub invariant-loop-k : goal.invariant-loop-k
invariant-loop-k l = (rs qs : List (Rule Identifier)) → AreRules l.work l.rules rs → AreRules l.work l.others qs → (rs ≡ qs) ↔ (drop l.k rs ≡ drop l.k qs)
