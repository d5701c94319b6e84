use Rattle.std.proofs.Common.{refl}
use Rattle.carried_forms.proofs.NumberLaws.{pairs_apart}
use Rattle.carried_forms.proofs.OldNumbers.{pairs_tell}
use Rattle.carried_forms.proofs.laws.pairs_are_renumbered.Goals as goal

pub returns : goal.returns
returns c = record {
  one_to_one = λ us vs a b. pairs_apart us vs a b;
  prelude_kept = λ ps. record { unit = refl; form = refl };
  old_numbers = λ us vs a b. pairs_tell us vs a b;
}
