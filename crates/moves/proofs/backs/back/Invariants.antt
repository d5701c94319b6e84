use Rattle.std.proofs.Common.{◌≡◌, length}
use Rattle.moves.proofs.TableLaws.{LeadsBack}
use Rattle.moves.proofs.backs.back.Given as goal

abbrev pub invariant-loop-number : goal.invariant-loop-number
invariant-loop-number l = record {
  length : length l.old.items ≡ length l.numbers;
  back : LeadsBack l.old.items l.numbers l.number;
}
