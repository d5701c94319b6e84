use Rattle.std.proofs.Common.{◌≡◌, ◌<◌, length, arith}
use Rattle.std.proofs.lemmas.Bool.Decides.{nat_tests}
use Rattle.ls_outside.proofs.CallLaws.{take_all_of, take_no}
use Rattle.ls_outside.proofs.record.note_some.Goals as goal

pub returns-then-not-is_empty : goal.returns-then-not-is_empty
returns-then-not-is_empty c =
    let some : 0 < length c.args.bytes.now = grind (arith, nat_tests) in
    take_all_of _ _ c.args.bytes.now c.note.ensures some

pub returns-else-not-is_empty : goal.returns-else-not-is_empty
returns-else-not-is_empty c =
    let none : length c.args.bytes.now ≡ 0 = grind (arith, nat_tests) in
    take_no _ c.args.bytes.now none
