use Rattle.declared_again.proofs.RootMoments.{stays_at_root}
use Rattle.declared_again.proofs.laws.declarations_stay_at_the_root.Goals as goal

pub returns : goal.returns
returns c = λ w turns t macros. stays_at_root w macros turns t
