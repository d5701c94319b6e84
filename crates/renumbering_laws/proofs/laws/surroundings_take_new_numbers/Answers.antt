use Rattle.renumbering_laws.proofs.NewSurroundings.{old_numbers_apart, turns_move}
use Rattle.renumbering_laws.proofs.laws.surroundings_take_new_numbers.Goals as goal

pub returns : goal.returns
returns c = record {
  turns = λ r b w. turns_move r b w;
  one_to_one = λ r b. old_numbers_apart r b;
}
