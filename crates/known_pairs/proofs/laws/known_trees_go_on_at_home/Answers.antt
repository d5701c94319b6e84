use Rattle.known_pairs.proofs.KnownTrees.{known_tree, known_homes}
use Rattle.known_pairs.proofs.laws.known_trees_go_on_at_home.Goals as goal

pub returns : goal.returns
returns c = record {
  tree = λ before after r p q f g i k here there unit form homes. known_tree before after p i q k r f g here there unit form homes;
  homes = λ before after r homes. λ p i q k f g a b included. known_homes before after p i q k r homes f g a b included;
}
