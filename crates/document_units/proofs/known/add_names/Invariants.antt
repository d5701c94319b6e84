use Rattle.std.proofs.Common.{◌≡◌, ◌++◌, take}
use Rattle.document_units.proofs.KnownSteps.{names_at}
use Rattle.document_units.proofs.known.add_names.Given as goal

abbrev pub invariant-loop-datum : goal.invariant-loop-datum
invariant-loop-datum l = l.names ≡ l.fn.names ++ names_at (take l.datum-index l.items)
