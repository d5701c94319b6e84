use Rattle.std.proofs.Common.{List, map, take}
use Rattle.scheme_model.specs.Ident.{Ident as Identifier}
use Rattle.scheme_model.specs.ScopedExpansion.{Frames, ScopedState}
use Rattle.rules_match.specs.Matches.{ArePairs}
use Rattle.core_tree.specs.Names.{AllMatch}
use Rattle.unit_scopes.specs.State.{Stands}
use Rattle.unit_scopes.specs.Outcomes.{At}
use Rattle.unit_scopes.specs.Used.{ComparisonFor, comparison_of}
use Rattle.unit_scopes.proofs.scope.UnitScope.compare_each.Given as goal

abbrev pub invariant-loop-pair : goal.invariant-loop-pair
invariant-loop-pair l =
    (ls : List Frames) (s : ScopedState) (gs : Frames) (fs : Frames) (qs : List (Identifier × Identifier)) → Stands l.work l.self ls s → At ls l.literal_scope gs → At ls l.scope fs → ArePairs l.work l.pairs qs →
    AllMatch (ComparisonFor l.work ls l.literal_scope l.scope) l.comparisons.items (map (comparison_of s gs fs) (take l.pair-index qs))
