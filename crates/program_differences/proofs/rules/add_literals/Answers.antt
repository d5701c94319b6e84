use Rattle.std.proofs.Common.{◌≡◌, ◌+◌, [], ◌∷◌, ◌++◌, sym, refl, ap, arith}
use Rattle.rename_model.specs.Walks.{LeafOf, IsRuleLiteral}
use Rattle.program_leaves.proofs.AddLaws.{adds_none, adds_one, adds_both, adds_same}
use Rattle.alpha_equal.specs.Slots.{IsSlot}
use Rattle.program_differences.specs.Variables.{literals}
use Rattle.program_differences.proofs.RuleLaws.{literals_more}
use Rattle.program_differences.proofs.rules.add_literals.Goals as goal

pub loop-k-init : goal.loop-k-init
loop-k-init c = λ names unit form. adds_none (IsSlot names unit form) c.args.slots.now.items

pub loop-k-preserved : goal.loop-k-preserved
loop-k-preserved c = λ names unit form.
    let P = IsSlot names unit form in
    let k = c.loop-k.k in
    let old = c.args.slots.now.items in
    let new = c.push.new.self.items in
    adds_same P old new (literals k ++ LeafOf IsRuleLiteral ∷ []) (literals (k + 1)) (sym (literals_more k))
    (adds_both P old c.loop-k.slots.items new (literals k) (LeafOf IsRuleLiteral ∷ []) (c.loop-k.invariant names unit form) (adds_one P c.loop-k.slots.items new _ (LeafOf IsRuleLiteral) c.in_ok-push.ensures.items refl))

pub returns : goal.returns
returns c = λ names unit form.
    let all : c.loop-k.k ≡ c.args.count = omega arith in
    adds_same (IsSlot names unit form) c.args.slots.now.items c.loop-k.slots.items (literals c.loop-k.k) (literals c.args.count) (ap literals all) (c.loop-k.invariant names unit form)
