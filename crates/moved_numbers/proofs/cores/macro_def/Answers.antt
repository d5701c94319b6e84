use Rattle.std.proofs.Common.{refl}
use Rattle.moves.specs.Numbers.{numbers_of}
use Rattle.moved_numbers.proofs.LeafLaws.{macro_on}
use Rattle.moved_numbers.proofs.cores.macro_def.Goals as goal

pub returns-clause-stands : goal.returns-clause-stands
returns-clause-stands c = macro_on (numbers_of c.args.moves.now) (λ u n. refl) c.args.it.now (record { binder = c.binder-it.result; rules = c.args.it.now.rules; leaves = c.leaves.new.all }) c.binder-it.ensures refl c.leaves.ensures.items

pub returns-clause-value : goal.returns-clause-value
returns-clause-value c = λ i. record { binder = c.binder-it.ensures i; rules = c.args.it.now.rules; leaves = c.leaves.ensures.value i }
