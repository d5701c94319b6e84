use Rattle.std.proofs.Common.{◌≡◌, List, drop}
use Rattle.std.specs.Prelude.{None}
use Rattle.scheme_model.specs.Matching.{Binding}
use Rattle.scheme_model.specs.Building.{places_of}
use Rattle.scheme_model.specs.Ident.{Ident as Identifier}
use Rattle.syntax_tree.specs.declared.trees.Work.{Work}
use Rattle.syntax_tree.specs.declared.trees.table.Region.{Region}
use Rattle.rules_build.specs.Values.{AreBound}
use Rattle.rules_build.proofs.values.places_of.Given as goal

abbrev pub invariant-loop-bound : goal.invariant-loop-bound
invariant-loop-bound l =
    (work : Work) (region : Region) (ms : List (Binding Identifier Identifier)) → AreBound work region l.bounds ms → places_of None ms ≡ places_of l.places (drop l.bound-index ms)
