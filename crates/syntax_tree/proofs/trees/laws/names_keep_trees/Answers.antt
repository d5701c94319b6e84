use Rattle.syntax_tree.proofs.WorkLaws.{names_keep}
use Rattle.syntax_tree.proofs.trees.laws.names_keep_trees.Goals as goal

pub returns : goal.returns
returns c = names_keep
