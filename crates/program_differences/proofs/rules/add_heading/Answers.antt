use Rattle.std.proofs.Common.{ℕ, [], ◌∷◌, ◌++◌, List, ap}
use Rattle.std.specs.Prelude.{None}
use Rattle.rename_model.specs.Walks.{OfNode, OfNumber, ShowsNothing, IsRules, Slot, in_rules, truth_number}
use Rattle.program_leaves.proofs.AddLaws.{adds_both, adds_same}
use Rattle.alpha_equal.specs.Slots.{IsSlot}
use Rattle.program_differences.proofs.rules.add_heading.Goals as goal

abbrev counted : ℕ → List Slot
counted n = in_rules (OfNumber n) None ShowsNothing ∷ []

pub returns : goal.returns
returns c = λ names unit form.
    let P = IsSlot names unit form in
    let old = c.args.slots.now.items in
    let one = c.add_node.new.slots.items in
    let two = c.add_number.new.slots.items in
    let three = c.add_number-2.new.slots.items in
    let new = c.add_number-3.new.slots.items in
    let own = adds_same P one two (counted c.truth_number.result) (counted (truth_number c.args.own)) (ap counted c.truth_number.ensures) (c.in_ok-add_number.ensures names unit form) in
    adds_both P old one new (in_rules (OfNode IsRules) None ShowsNothing ∷ []) (counted (truth_number c.args.own) ++ counted c.args.literals ++ counted c.args.rules) (c.in_ok-add_node.ensures names unit form)
    (adds_both P one two new (counted (truth_number c.args.own)) (counted c.args.literals ++ counted c.args.rules) own
    (adds_both P two three new (counted c.args.literals) (counted c.args.rules) (c.in_ok-add_number-2.ensures names unit form) (c.in_ok-add_number-3.ensures names unit form)))
