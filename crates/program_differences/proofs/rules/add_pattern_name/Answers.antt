use Rattle.std.proofs.Common.{[], ◌∷◌, refl, sym, ap, ◌∙◌}
use Rattle.std.specs.Prelude.{Option, Some}
use Rattle.rename_model.specs.Walks.{LeafOf, OfNode, ShowsNothing, IsRuleLiteral, IsDots, IsUnderscore, in_rules}
use Rattle.syntax_tree.specs.Macros.{role_as}
use Rattle.syntax_tree.specs.declared.rules.Role.{Role as CodeRole}
use Rattle.program_leaves.proofs.AddLaws.{adds_none, adds_one, adds_same}
use Rattle.program_differences.specs.declared.rules.Variable.{Variable}
use Rattle.alpha_equal.specs.Slots.{IsSlot}
use Rattle.program_differences.specs.Variables.{pattern_slots, placed}
use Rattle.program_differences.proofs.rules.add_pattern_name.Goals as goal

pub returns-in_ok-push-in-Literal : goal.returns-in_ok-push-in-Literal
returns-in_ok-push-in-Literal c = λ names unit form.
    let P = IsSlot names unit form in
    let old = c.args.slots.now.items in
    adds_same P old c.push.new.self.items (LeafOf IsRuleLiteral ∷ []) (pattern_slots (role_as c.args.role) c.args.variable c.args.occ) (ap (λ (x : CodeRole). pattern_slots (role_as x) c.args.variable c.args.occ) (sym c.in-Literal.is))
    (adds_one P old c.push.new.self.items _ (LeafOf IsRuleLiteral) c.in_ok-push-in-Literal.ensures.items refl)

pub returns-in_ok-add_seen-in-Ellipsis : goal.returns-in_ok-add_seen-in-Ellipsis
returns-in_ok-add_seen-in-Ellipsis c = λ names unit form.
    adds_same (IsSlot names unit form) c.args.slots.now.items c.add_seen.new.slots.items (in_rules (OfNode IsDots) c.args.occ ShowsNothing ∷ []) (pattern_slots (role_as c.args.role) c.args.variable c.args.occ)
    (ap (λ (x : CodeRole). pattern_slots (role_as x) c.args.variable c.args.occ) (sym c.in-Ellipsis.is)) (c.in_ok-add_seen-in-Ellipsis.ensures names unit form (OfNode IsDots) refl)

pub returns-in_ok-add_seen-in-Any : goal.returns-in_ok-add_seen-in-Any
returns-in_ok-add_seen-in-Any c = λ names unit form.
    adds_same (IsSlot names unit form) c.args.slots.now.items c.add_seen-in-Any.new.slots.items (in_rules (OfNode IsUnderscore) c.args.occ ShowsNothing ∷ []) (pattern_slots (role_as c.args.role) c.args.variable c.args.occ)
    (ap (λ (x : CodeRole). pattern_slots (role_as x) c.args.variable c.args.occ) (sym c.in-Any.is)) (c.in_ok-add_seen-in-Any.ensures names unit form (OfNode IsUnderscore) refl)

pub returns-in-None : goal.returns-in-None
returns-in-None c = λ names unit form.
    let P = IsSlot names unit form in
    let old = c.args.slots.now.items in
    adds_same P old old [] (pattern_slots (role_as c.args.role) c.args.variable c.args.occ)
    (ap (λ (x : Option Variable). placed x c.args.occ []) (sym c.in-None.is) ∙ ap (λ (x : CodeRole). pattern_slots (role_as x) c.args.variable c.args.occ) (sym c.in-Variable.is)) (adds_none P old)

pub returns-in_ok-add_placed-in-Some : goal.returns-in_ok-add_placed-in-Some
returns-in_ok-add_placed-in-Some c = λ names unit form.
    adds_same (IsSlot names unit form) c.args.slots.now.items c.add_placed.new.slots.items (placed (Some c.in-Some.variable) c.args.occ []) (pattern_slots (role_as c.args.role) c.args.variable c.args.occ)
    (ap (λ (x : Option Variable). placed x c.args.occ []) (sym c.in-Some.is) ∙ ap (λ (x : CodeRole). pattern_slots (role_as x) c.args.variable c.args.occ) (sym c.in-Variable.is)) (c.in_ok-add_placed-in-Some.ensures names unit form [])
