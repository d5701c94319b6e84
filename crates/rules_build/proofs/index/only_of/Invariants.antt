use Rattle.std.proofs.Common.{◌≡◌, ◌++◌, drop}
use Rattle.rules_build.specs.Values.{values_by_number}
use Rattle.rules_build.proofs.RowLaws.{row_of_one}
use Rattle.rules_build.proofs.index.only_of.Given as goal

abbrev pub invariant-loop-bound : goal.invariant-loop-bound
invariant-loop-bound l = values_by_number l.bounds l.id ≡ row_of_one l.only ++ values_by_number (drop l.bound-index l.bounds) l.id
