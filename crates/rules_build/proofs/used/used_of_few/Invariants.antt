use Rattle.std.proofs.Common.{take}
use Rattle.scheme_model.specs.Trees.{Tree}
use Rattle.scheme_model.specs.Ident.{Ident as Identifier}
use Rattle.syntax_tree.specs.Works.{StandsFor}
use Rattle.syntax_tree.specs.declared.trees.table.Region.{Region}
use Rattle.rules_build.proofs.RowLaws.{UsedOf}
use Rattle.rules_build.proofs.used.used_of_few.Given as goal

abbrev pub invariant-loop-bound : goal.invariant-loop-bound
invariant-loop-bound l = (region : Region) (t : Tree Identifier) → StandsFor l.work l.template t → UsedOf l.work region t (take l.bound-index l.bounds) l.used.items
