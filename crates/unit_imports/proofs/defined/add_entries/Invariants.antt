use Rattle.std.proofs.Common.{◌≡◌, ◌++◌}
use Rattle.unit_imports.proofs.defined.add_entries.Given as goal

abbrev pub invariant-loop-entry : goal.invariant-loop-entry
invariant-loop-entry l = l.names.items ≡ l.initial.names.items ++ l.yielded
