use Rattle.std.proofs.Common.{[], ◌∷◌}
use Rattle.std.specs.Prelude.{None}
use Rattle.rename_model.specs.Walks.{OfNode, OfNumber, ShowsNothing, IsVector, in_rules}
use Rattle.program_leaves.proofs.AddLaws.{adds_both}
use Rattle.alpha_equal.specs.Slots.{IsSlot}
use Rattle.program_differences.proofs.rules.add_vector.Goals as goal

pub returns : goal.returns
returns c = λ names unit form.
    adds_both (IsSlot names unit form) c.args.slots.now.items c.add_node.new.slots.items c.add_number.new.slots.items (in_rules (OfNode IsVector) None ShowsNothing ∷ []) (in_rules (OfNumber c.args.parts) None ShowsNothing ∷ [])
    (c.in_ok-add_node.ensures names unit form) (c.in_ok-add_number.ensures names unit form)
