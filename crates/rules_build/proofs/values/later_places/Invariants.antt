use Rattle.std.proofs.Common.{take}
use Rattle.scheme_model.specs.Building.{later_places}
use Rattle.syntax_tree.specs.declared.trees.Work.{Work}
use Rattle.syntax_tree.specs.declared.trees.table.Region.{Region}
use Rattle.rules_build.specs.Values.{IsBound}
use Rattle.rules_build.proofs.PairLaws.{MadeOf}
use Rattle.rules_build.proofs.values.later_places.Given as goal

abbrev pub invariant-loop-bound : goal.invariant-loop-bound
invariant-loop-bound l =
    (work : Work) (region : Region) → MadeOf (IsBound work region) (IsBound work region) later_places (take l.bound-index l.bounds) l.later.items
