-- What the slots of rules of the code stand for.
use Rattle.std.specs.Prelude.{◌≡◌, ℕ}
use Rattle.rename_model.specs.Walks as walk
use Rattle.syntax_tree.specs.Names.{Names}
use Rattle.alpha_equal.specs.declared.slots.Slot.{Slot}
use Rattle.alpha_equal.specs.declared.slots.Slot.TheVariants as slot
use Rattle.alpha_equal.specs.Points.{node_as, IsPoint}

abbrev pub IsSlot : Names → (unit form : ℕ) → Slot → walk.Slot → Type 0
IsSlot names unit form (slot.Fixed p) s = (q : walk.Point) × (s ≡ walk.Fixed q) × IsPoint names unit form p q
IsSlot names unit form (slot.Leaf k) s = s ≡ walk.LeafOf (node_as k)
