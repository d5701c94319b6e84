use Rattle.std.proofs.Common.{List, map, take}
use Rattle.scheme_model.specs.Ident.{Ident as Identifier}
use Rattle.scheme_model.specs.Leaves.{Leaf}
use Rattle.scheme_model.specs.ScopedExpansion.{Frames, ScopedState}
use Rattle.rules_check.specs.Gathered.{AreLeaves}
use Rattle.core_tree.specs.Names.{AllMatch, IsLeaf}
use Rattle.unit_scopes.specs.State.{Stands}
use Rattle.unit_scopes.specs.Outcomes.{At}
use Rattle.unit_scopes.specs.RulesTold.{definition_leaf}
use Rattle.unit_scopes.proofs.scope.UnitScope.rule_leaves.Given as goal

abbrev pub invariant-loop-leaf : goal.invariant-loop-leaf
invariant-loop-leaf l =
    (ls : List Frames) (s : ScopedState) (fs : Frames) (ms : List (Leaf Identifier)) → Stands l.work l.self ls s → At ls l.scope fs → AreLeaves l.work.symbols l.leaves ms →
    AllMatch (IsLeaf l.work.symbols s.unit s.form) l.found.items (map (definition_leaf s fs) (take l.leaf-index ms))
