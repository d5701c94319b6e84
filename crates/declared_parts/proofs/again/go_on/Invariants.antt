use Rattle.std.proofs.Common.{◌≡◌, ℕ}
use Rattle.unit_scopes.specs.declared.scope.UnitScope.{UnitScope}
use Rattle.declared_parts.specs.Again.{CanDeclare}
use Rattle.declared_parts.specs.Going.{GoesOn}
use Rattle.declared_parts.proofs.EndGoing.{SoFar}
use Rattle.declared_parts.proofs.again.go_on.Given as goal

abbrev pub invariant-loop-note : goal.invariant-loop-note
invariant-loop-note l = record {
  some : (old : UnitScope) × (n : ℕ) × (can : CanDeclare l.work old n l.part) × SoFar l.work old n l.part can l.units l.going l.note-index;
  all : (old : UnitScope) (n : ℕ) (can : CanDeclare l.work old n l.part) → GoesOn l.work old n l.part can l.fn.units l.fn.going 0 → l.fn.going.macros ≡ 0 → SoFar l.work old n l.part can l.units l.going l.note-index;
}
