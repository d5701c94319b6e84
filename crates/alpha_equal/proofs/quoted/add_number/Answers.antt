use Rattle.std.proofs.Common.{refl}
use Rattle.rename_model.specs.Walks.{OfNumber}
use Rattle.alpha_equal.proofs.quoted.add_number.Goals as goal

pub returns : goal.returns
returns c = λ names unit form. c.in_ok-add_shape.ensures names unit form (OfNumber c.args.count) refl
