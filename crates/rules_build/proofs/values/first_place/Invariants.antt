use Rattle.std.proofs.Common.{take}
use Rattle.scheme_model.specs.Building.{first_place}
use Rattle.syntax_tree.specs.declared.trees.Work.{Work}
use Rattle.syntax_tree.specs.declared.trees.table.Region.{Region}
use Rattle.rules_build.specs.Values.{IsBound}
use Rattle.rules_build.proofs.PairLaws.{MadeOf}
use Rattle.rules_build.proofs.values.first_place.Given as goal

abbrev pub invariant-loop-bound : goal.invariant-loop-bound
invariant-loop-bound l =
    (work : Work) (region : Region) → MadeOf (IsBound work region) (IsBound work region) first_place (take l.bound-index l.bounds) l.here.items
