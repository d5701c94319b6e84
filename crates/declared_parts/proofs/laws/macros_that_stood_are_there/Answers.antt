use Rattle.scheme_model.specs.FormsAlike.{set_aside_asking}
use Rattle.declared_again.proofs.EndingSides.{made_by_then}
use Rattle.declared_parts.proofs.StoodMacros.{stood_there}
use Rattle.declared_parts.proofs.laws.macros_that_stood_are_there.Goals as goal

pub returns : goal.returns
returns c = λ w turns t. let q = (set_aside_asking w turns t).1 in let made = made_by_then w turns t in stood_there w q.moment q.asked made.1 made.0
