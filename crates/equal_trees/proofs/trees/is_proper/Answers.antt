use Rattle.std.proofs.Common.{false, refl, sym}
use Rattle.equal_trees.proofs.EqualLaws.{is_not, no_tail, not_proper}
use Rattle.equal_trees.proofs.trees.is_proper.Goals as goal

pub returns-in-None : goal.returns-in-None
returns-in-None c = λ work last g. (λ h. sym (no_tail work c.args.end last c.in-None.is g), λ h. refl)

pub returns-in-Some : goal.returns-in-Some
returns-in-Some c = λ work last g. is_not false refl (not_proper work c.args.end _ last c.in-Some.is g)
