use Rattle.syntax_tree.proofs.WorkLaws.{stands_once}
use Rattle.syntax_tree.proofs.trees.laws.stands_once.Goals as goal

pub returns : goal.returns
returns c = stands_once
