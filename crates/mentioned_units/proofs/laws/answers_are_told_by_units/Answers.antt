use Rattle.mentioned_units.proofs.Told.{told_by_units}
use Rattle.mentioned_units.proofs.laws.answers_are_told_by_units.Goals as goal

pub returns : goal.returns
returns c = λ mask w v q same h. told_by_units mask w v same q h
