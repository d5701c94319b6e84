use Rattle.syntax_tree.proofs.WorkLaws.{only_adds, still_reached, unnamed_since}
use Rattle.syntax_tree.proofs.trees.laws.additions_can_be_undone.Goals as goal

pub returns-clause-adds : goal.returns-clause-adds
returns-clause-adds c = only_adds

pub returns-clause-reached : goal.returns-clause-reached
returns-clause-reached c = still_reached

pub returns-clause-unnamed : goal.returns-clause-unnamed
returns-clause-unnamed c = unnamed_since
