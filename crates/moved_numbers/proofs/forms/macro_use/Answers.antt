use Rattle.std.proofs.Common.{refl}
use Rattle.moves.specs.Numbers.{numbers_of}
use Rattle.moved_numbers.proofs.FormLaws.{use_on}
use Rattle.moved_numbers.proofs.forms.macro_use.Goals as goal

pub returns-clause-stands : goal.returns-clause-stands
returns-clause-stands c = use_on (numbers_of c.args.moves.now) (λ u n. refl) c.args.it.now (record { keyword = c.target-it.result; literals = c.targets.new.all }) c.target-it.ensures c.targets.ensures.items

pub returns-clause-value : goal.returns-clause-value
returns-clause-value c = λ i. record { keyword = c.target-it.ensures i; literals = c.targets.ensures.value i }
