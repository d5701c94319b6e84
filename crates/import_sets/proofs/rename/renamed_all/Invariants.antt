use Rattle.std.proofs.Common.{◌≡◌}
use Rattle.import_sets.specs.Given.{rename_all}
use Rattle.import_sets.proofs.rename.renamed_all.Given as goal

abbrev pub invariant-loop-entry : goal.invariant-loop-entry
invariant-loop-entry l = l.all ≡ rename_all l.pairs l.yielded
