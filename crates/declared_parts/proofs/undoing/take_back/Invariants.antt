use Rattle.std.proofs.Common.{reverse, vec_len}
use Rattle.unit_scopes.specs.declared.scope.UnitScope.{UnitScope}
use Rattle.declared_parts.specs.Undone.{AreDefined}
use Rattle.declared_parts.proofs.undoing.take_back.Given as goal

abbrev pub invariant-loop-last : goal.invariant-loop-last
invariant-loop-last l = record {
  some : (old : UnitScope) × AreDefined old l.units (reverse l.left.items);
  all : (old : UnitScope) → AreDefined old l.fn.units (reverse l.fn.made.items) → AreDefined old l.units (reverse l.left.items);
}

abbrev pub decreases-loop-last : goal.decreases-loop-last
decreases-loop-last l = vec_len l.left
