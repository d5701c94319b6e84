use Rattle.std.proofs.Common.{take}
use Rattle.syntax_tree.specs.declared.trees.Work.{Work}
use Rattle.syntax_tree.specs.declared.trees.table.Region.{Region}
use Rattle.rules_build.specs.Values.{IsBoundOne, IsBound}
use Rattle.rules_build.proofs.PairLaws.{MadeOf}
use Rattle.rules_build.proofs.values.all_bound.Given as goal

abbrev pub invariant-loop-binding : goal.invariant-loop-binding
invariant-loop-binding l =
    (work : Work) (region : Region) → MadeOf (IsBoundOne work region) (IsBound work region) (λ ms. ms) (take l.binding-index l.bindings) l.bounds.items
