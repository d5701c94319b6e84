use Rattle.std.proofs.Common.{[], ◌∷◌, Bool, refl, sym, ap, ◌∙◌}
use Rattle.std.specs.Prelude.{Option, Some}
use Rattle.rename_model.specs.Walks.{LeafOf, OfNode, ShowsNothing, IsDots, IsInserted, in_rules}
use Rattle.program_leaves.proofs.AddLaws.{adds_one, adds_same}
use Rattle.program_differences.specs.declared.rules.Variable.{Variable}
use Rattle.alpha_equal.specs.Slots.{IsSlot}
use Rattle.program_differences.specs.Variables.{template_slots, placed}
use Rattle.program_differences.proofs.rules.add_template_name.Goals as goal

pub returns-then-dots : goal.returns-then-dots
returns-then-dots c = λ names unit form.
    adds_same (IsSlot names unit form) c.args.slots.now.items c.add_seen.new.slots.items (in_rules (OfNode IsDots) c.args.occ ShowsNothing ∷ []) (template_slots c.args.dots c.args.variable c.args.occ)
    (ap (λ (x : Bool). template_slots x c.args.variable c.args.occ) (sym c.if-dots.true)) (c.in_ok-add_seen.ensures names unit form (OfNode IsDots) refl)

pub returns-in_ok-push-in-None : goal.returns-in_ok-push-in-None
returns-in_ok-push-in-None c = λ names unit form.
    let P = IsSlot names unit form in
    let old = c.args.slots.now.items in
    adds_same P old c.push.new.self.items (LeafOf IsInserted ∷ []) (template_slots c.args.dots c.args.variable c.args.occ)
    (ap (λ (x : Option Variable). placed x c.args.occ (LeafOf IsInserted ∷ [])) (sym c.in-None.is) ∙ ap (λ (x : Bool). template_slots x c.args.variable c.args.occ) (sym c.if-dots.false))
    (adds_one P old c.push.new.self.items _ (LeafOf IsInserted) c.in_ok-push-in-None.ensures.items refl)

pub returns-in_ok-add_placed-in-Some : goal.returns-in_ok-add_placed-in-Some
returns-in_ok-add_placed-in-Some c = λ names unit form.
    adds_same (IsSlot names unit form) c.args.slots.now.items c.add_placed.new.slots.items (placed (Some c.in-Some.variable) c.args.occ (LeafOf IsInserted ∷ [])) (template_slots c.args.dots c.args.variable c.args.occ)
    (ap (λ (x : Option Variable). placed x c.args.occ (LeafOf IsInserted ∷ [])) (sym c.in-Some.is) ∙ ap (λ (x : Bool). template_slots x c.args.variable c.args.occ) (sym c.if-dots.false)) (c.in_ok-add_placed-in-Some.ensures names unit form (LeafOf IsInserted ∷ []))
