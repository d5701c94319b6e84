use Rattle.carried_laws.proofs.StaysOn.{stays_there, stays_on}
use Rattle.carried_laws.proofs.laws.entries_stay_on.Goals as goal

pub returns : goal.returns
returns c = record {
  stays = λ r b n k f g at h alike form tree. stays_on r b n k f g at h alike form tree;
  there = λ r b n k w u f g at st has alike form tree. stays_there r b n k f g at w u st has alike form tree;
}
