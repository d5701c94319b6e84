use Rattle.known_pairs.proofs.PairsKnown.{known_pair}
use Rattle.known_pairs.proofs.CarriedKnown.{known_tell, known_follow, carried_too, known_less}
use Rattle.known_pairs.proofs.laws.pairs_known_before_carry_as_much.Goals as goal

pub returns : goal.returns
returns c = record {
  pairs = λ before after p once once_after h. known_pair before after once once_after p h;
  tell = λ before after once once_after. known_tell before after once once_after;
  follow = λ before after once once_after. known_follow before after once once_after;
  carried = λ before after x once once_after homes h. carried_too before after once once_after homes x h;
  work = λ before after once once_after homes. known_less before after once once_after homes;
}
