use Rattle.moves.proofs.EntryLaws.{ident_there}
use Rattle.moves.proofs.StandLaws.{stands_there}
use Rattle.moves.proofs.laws.works_take_new_numbers.Goals as goal

pub returns-clause-trees : goal.returns-clause-trees
returns-clause-trees c r old new moves tree t h = stands_there r old.trees.nodes new.trees.nodes old.symbols new.symbols moves.trees.nodes moves.names t tree.number h

pub returns-clause-idents : goal.returns-clause-idents
returns-clause-idents c r old new moves n i h = ident_there r old.symbols new.symbols moves.names n i h
