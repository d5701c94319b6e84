use Rattle.std.proofs.Common.{◌∙◌}
use Rattle.moves.specs.Works.{lived_as}
use Rattle.moves.proofs.StandLaws.{lives_there, lies_there, outlives_there, open_there, named_there}
use Rattle.moves.proofs.laws.regions_keep_their_nodes.Goals as goal

pub returns-clause-opened : goal.returns-clause-opened
returns-clause-opened c r old new moves region h = (moves.trees.identity ∙ h.0, open_there r old new moves region.in_pool.number h.1)

pub returns-clause-lies : goal.returns-clause-lies
returns-clause-lies c r old new moves region tree h = lies_there r old new moves tree.number region.in_pool.number h

pub returns-clause-outlives : goal.returns-clause-outlives
returns-clause-outlives c r old new moves outer inner h = outlives_there r old new moves outer.in_pool.number inner.in_pool.number h

pub returns-clause-named : goal.returns-clause-named
returns-clause-named c r old new moves region tree h = named_there r old new moves region.in_pool.number tree.number h

pub returns-clause-reached : goal.returns-clause-reached
returns-clause-reached c r old new moves region mark h rank lt =
    let p = h rank lt in
    (p.0, lived_as r p.1, lives_there r old new moves p.0 p.1 p.2, p.3, p.4)
