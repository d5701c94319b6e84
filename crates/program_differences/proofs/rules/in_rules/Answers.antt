use Rattle.std.proofs.Common.{refl}
use Rattle.rename_model.specs.Walks.{AtRule, point}
use Rattle.program_differences.proofs.rules.in_rules.Goals as goal

pub returns : goal.returns
returns c = λ names unit form s t seen shown. (point AtRule s c.args.occ t, refl, record { told = record { spot = refl; place = refl; shown = shown }; seen = seen })
