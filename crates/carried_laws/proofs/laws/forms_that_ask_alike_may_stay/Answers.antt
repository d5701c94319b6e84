use Rattle.carried_laws.proofs.CarriedStays.{came_to_is_entry, carried_stays}
use Rattle.carried_laws.proofs.laws.forms_that_ask_alike_may_stay.Goals as goal

pub returns : goal.returns
returns c = record {
  entry = λ n f h. came_to_is_entry n f h;
  stays = λ r b n f g at alike form tree. carried_stays r b n f g at alike form tree;
}
