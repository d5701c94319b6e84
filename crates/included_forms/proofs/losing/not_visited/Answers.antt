use Rattle.std.proofs.Common.{◌≡◌, false, refl}
use Rattle.included_forms.specs.declared.steps.Way.{Way}
use Rattle.included_forms.specs.declared.steps.Way.TheVariants as way
use Rattle.included_forms.specs.Losses.{visited_in}
use Rattle.included_forms.proofs.losing.not_visited.Goals as goal

fresh : (w : Way) → visited_in (record { forms = false; declarations = false }) w ≡ false
fresh way.Forms = refl
fresh way.Declarations = refl

pub returns : goal.returns
returns c = fresh
