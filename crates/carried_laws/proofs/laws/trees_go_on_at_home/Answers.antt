use Rattle.carried_laws.proofs.HomeTrees.{worked_tree, homes_by_uris}
use Rattle.carried_laws.proofs.laws.trees_go_on_at_home.Goals as goal

pub returns : goal.returns
returns c = record {
  tree = λ before after r p q f g i k here there unit form homes. worked_tree before after r p i q k f g here there unit form homes;
  homes = λ before after r homes. homes_by_uris before after r homes;
}
