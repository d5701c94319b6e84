use Rattle.syntax_tree.proofs.InternLaws as lemmas
use Rattle.syntax_tree.proofs.trees.laws.names_told_apart.Goals as goal

pub returns : goal.returns
returns c = λ i j h. lemmas.names_apart i j h
