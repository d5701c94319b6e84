use Rattle.std.proofs.Common.{refl}
use Rattle.rename_model.specs.Walks.{ShowsNothing, in_rules}
use Rattle.program_leaves.proofs.AddLaws.{adds_one}
use Rattle.alpha_equal.specs.Slots.{IsSlot}
use Rattle.program_differences.proofs.rules.add_seen.Goals as goal

pub returns : goal.returns
returns c = λ names unit form s is.
    adds_one (IsSlot names unit form) c.args.slots.now.items c.push.new.self.items c.in_rules.result (in_rules s c.args.occ ShowsNothing) c.in_ok-push.ensures.items (c.in_rules.ensures names unit form s ShowsNothing is refl)
