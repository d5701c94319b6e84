use Rattle.std.proofs.Common.{[], ◌∷◌, refl}
use Rattle.rename_model.specs.Walks.{OfNode, OfNumber, ShowsPlace, IsPatternVariable, in_rules}
use Rattle.program_leaves.proofs.AddLaws.{adds_one, adds_both}
use Rattle.alpha_equal.specs.Slots.{IsSlot}
use Rattle.program_differences.proofs.rules.add_placed.Goals as goal

pub returns : goal.returns
returns c = λ names unit form other.
    let P = IsSlot names unit form in
    let old = c.args.slots.now.items in
    let mid = c.push.new.self.items in
    let new = c.push-2.new.self.items in
    let shown = ShowsPlace c.args.variable.occ in
    let one = in_rules (OfNode IsPatternVariable) c.args.occ shown in
    let two = in_rules (OfNumber c.args.variable.place) c.args.occ shown in
    adds_both P old mid new (one ∷ []) (two ∷ [])
    (adds_one P old mid c.in_rules.result one c.in_ok-push.ensures.items (c.in_rules.ensures names unit form (OfNode IsPatternVariable) shown refl refl))
    (adds_one P mid new c.in_rules-2.result two c.in_ok-push-2.ensures.items (c.in_rules-2.ensures names unit form (OfNumber c.args.variable.place) shown refl refl))
