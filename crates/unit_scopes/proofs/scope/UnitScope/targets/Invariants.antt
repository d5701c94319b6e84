use Rattle.std.proofs.Common.{List, map, take}
use Rattle.scheme_model.specs.ExpansionFaults.{Named}
use Rattle.scheme_model.specs.Ident.{Ident as Identifier}
use Rattle.scheme_model.specs.ScopedExpansion.{Frames, ScopedState}
use Rattle.core_forms.specs.Parts.{IsName}
use Rattle.core_tree.specs.Names.{AllMatch, IsTarget}
use Rattle.unit_scopes.specs.State.{Stands}
use Rattle.unit_scopes.specs.Outcomes.{At}
use Rattle.unit_scopes.specs.Used.{target_at}
use Rattle.unit_scopes.proofs.scope.UnitScope.targets.Given as goal

abbrev pub invariant-loop-name : goal.invariant-loop-name
invariant-loop-name l =
    (ls : List Frames) (s : ScopedState) (fs : Frames) (ns : List (Named Identifier)) → Stands l.work l.self ls s → At ls l.scope fs → AllMatch (IsName l.work) l.names ns →
    AllMatch (IsTarget l.work.symbols s.unit s.form) l.targets.items (map (target_at s fs) (take l.name-index ns))
