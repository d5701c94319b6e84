use Rattle.renumbering_laws.proofs.RenumberedStates.{one_to_one, states_move, scoped_states_move}
use Rattle.renumbering_laws.proofs.laws.states_take_new_numbers.Goals as goal

pub returns : goal.returns
returns c = record {
  scoped = λ r w s. scoped_states_move r w s;
  substituted = λ r w s. states_move r w s;
  one_to_one = λ r w. one_to_one r w;
}
