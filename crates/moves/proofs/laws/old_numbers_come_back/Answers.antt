use Rattle.moves.proofs.StandLaws.{trees_back, work_back}
use Rattle.moves.proofs.laws.old_numbers_come_back.Goals as goal

pub returns-clause-trees : goal.returns-clause-trees
returns-clause-trees c = trees_back

pub returns-clause-work : goal.returns-clause-work
returns-clause-work c = work_back
