use Rattle.std.proofs.Common.{◌≡◌, length, arith}
use Rattle.std.proofs.lemmas.Bool.Decides.{nat_tests}
use Rattle.import_sets.proofs.CircleLaws.{imports_none}
use Rattle.import_sets.proofs.circles.is_circular.Goals as goal

pub returns-then-is_empty : goal.returns-then-is_empty
returns-then-is_empty c = λ ps is.
    let none : length c.row.result.now ≡ 0 = grind (arith, nat_tests) in
    imports_none c.args.graph.now ps c.args.place c.row.result.now is c.row.ensures none
