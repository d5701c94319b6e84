use Rattle.std.proofs.Common.{ℕ, [], ◌∷◌, ap}
use Rattle.std.specs.Prelude.{None, List}
use Rattle.rename_model.specs.Walks.{OfNode, OfNumber, ShowsNothing, IsList, Slot, in_rules, truth_number}
use Rattle.program_leaves.proofs.AddLaws.{adds_both, adds_same}
use Rattle.alpha_equal.specs.Slots.{IsSlot}
use Rattle.program_differences.proofs.rules.add_list.Goals as goal

abbrev counted : ℕ → List Slot
counted n = in_rules (OfNumber n) None ShowsNothing ∷ []

pub returns : goal.returns
returns c = λ names unit form.
    let P = IsSlot names unit form in
    let old = c.args.slots.now.items in
    let one = c.add_node.new.slots.items in
    let two = c.add_number.new.slots.items in
    let new = c.add_number-2.new.slots.items in
    let told : List Slot = in_rules (OfNode IsList) None ShowsNothing ∷ [] in
    let tail = adds_same P two new (counted c.truth_number.result) (counted (truth_number c.args.dotted)) (ap counted c.truth_number.ensures) (c.in_ok-add_number-2.ensures names unit form) in
    adds_both P old one new told (in_rules (OfNumber c.args.parts) None ShowsNothing ∷ counted (truth_number c.args.dotted)) (c.in_ok-add_node.ensures names unit form)
    (adds_both P one two new (counted c.args.parts) (counted (truth_number c.args.dotted)) (c.in_ok-add_number.ensures names unit form) tail)
