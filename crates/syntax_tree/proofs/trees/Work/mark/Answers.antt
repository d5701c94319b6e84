use Rattle.syntax_tree.proofs.trees.Work.mark.Goals as goal

pub returns-clause-reaches : goal.returns-clause-reaches
returns-clause-reaches c = c.mark.ensures.ranks.taken
