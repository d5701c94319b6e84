use Rattle.std.proofs.Common.{refl}
use Rattle.rename_model.specs.Walks.{OfNumber}
use Rattle.program_differences.proofs.rules.add_number.Goals as goal

pub returns : goal.returns
returns c = λ names unit form. c.in_ok-add_seen.ensures names unit form (OfNumber c.args.number) refl
