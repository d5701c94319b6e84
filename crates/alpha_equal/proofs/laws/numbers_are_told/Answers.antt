use Rattle.std.proofs.Common.{refl, arith}
use Rattle.alpha_equal.proofs.NumberLaws.{units_law}
use Rattle.alpha_equal.proofs.laws.numbers_are_told.Goals as goal

pub returns : goal.returns
returns c = λ work text uris all p q apart stand unit n i is. units_law work apart text uris all q 0 unit n i p.units q.units stand (omega arith) refl is
