-- Macro uses that waited are met, one after another, and what their literals mean is noted.
use Rattle.std.proofs.Common.{◌≡◌, ℕ, zero, suc, ◌+◌, ◌≤◌, List, [], ◌∷◌, length, take, slice_get, Some, sym, ap, ◌∙◌, subst, arith, add-one}
use Rattle.std.proofs.lemmas.List.{take_all}
use Rattle.std.proofs.lemmas.Option.{same_Some}
use Rattle.scheme_model.specs.Ident.{Ident as Identifier}
use Rattle.scheme_model.specs.Requirements.{Known}
use Rattle.scheme_model.specs.Order.{WaitingUse, meet_waiting, meet_all}
use Rattle.scheme_model.specs.ScopedExpansion.{Frames}
use Rattle.syntax_tree.specs.declared.trees.Work.{Work}
use Rattle.syntax_tree.specs.declared.trees.table.Region.{Region}
use Rattle.syntax_tree.proofs.Places.{none_some}
use Rattle.unit_scopes.specs.Kept.{WaitsFor}
use Rattle.unit_scopes.specs.Outcomes.{Leaves}
use Rattle.unit_scopes.specs.Stepped.{with_uses}
use Rattle.form_parts.specs.declared.items.WaitingUse as code_waiting
use Rattle.unit_scopes.specs.declared.scope.UnitScope.{UnitScope}
use Rattle.noted_steps.specs.Noting.{Noting, noting}
use Rattle.noted_steps.specs.Outcomes.{Stays}
use Rattle.noted_steps.specs.Standing.{Stands, with_notes}

-- one more is met
module _ (known : Known) (fs : Frames) where
  abbrev all : List (WaitingUse Identifier) → Noting → Noting
  all us s = meet_all (noting known) fs us s

  next_met : (k : ℕ) (us : List (WaitingUse Identifier)) (s : Noting) (w : WaitingUse Identifier) → slice_get us k ≡ Some w → all (take (suc k) us) s ≡ meet_waiting (noting known) fs w (all (take k us) s)
  next_met k [] s w h = none_some w h
  next_met zero (u ∷ us) s w h = ap (λ (x : WaitingUse Identifier). meet_waiting (noting known) fs x s) (same_Some u w h)
  next_met (suc k) (u ∷ us) s w h = next_met k us (meet_waiting (noting known) fs u s) w h

  pub one_more_met : (k : ℕ) (us : List (WaitingUse Identifier)) (s : Noting) (w : WaitingUse Identifier) → slice_get us k ≡ Some w → all (take (k + 1) us) s ≡ meet_waiting (noting known) fs w (all (take k us) s)
  one_more_met k us s w h = ap (λ (n : ℕ). all (take n us) s) (add-one k) ∙ next_met k us s w h

  pub all_met : (n : ℕ) (us : List (WaitingUse Identifier)) (s : Noting) → length us ≤ n → all (take n us) s ≡ all us s
  all_met n us s h = ap (λ (vs : List (WaitingUse Identifier)). all vs s) (take_all n us h)

-- the uses and the notes alone have changed
abbrev pub MeetsAlone : UnitScope → UnitScope → Type 0
MeetsAlone u v = v ≡ with_notes (with_uses u v.form.trace.uses) v.form.trace.notes

pub waits_on : (work : Work) (u v : UnitScope) (x : code_waiting.WaitingUse) (w : WaitingUse Identifier) → MeetsAlone u v → WaitsFor work u.unit u.form.number x w → WaitsFor work v.unit v.form.number x w
waits_on work u v x w same h = subst (λ (n : ℕ). WaitsFor work n v.form.number x w) (sym (ap (λ (y : UnitScope). y.unit) same)) (subst (λ (n : ℕ). WaitsFor work u.unit n x w) (sym (ap (λ (y : UnitScope). y.form.number) same)) h)

pub meets_again : (u v w : UnitScope) → MeetsAlone u v → MeetsAlone v w → MeetsAlone u w
meets_again u v w a b = b ∙ ap (λ (x : UnitScope). with_notes (with_uses x w.form.trace.uses) w.form.trace.notes) a

-- notes, and then a use
pub meets_so : (u v w : UnitScope) → v ≡ with_notes u v.form.trace.notes → w ≡ with_uses v w.form.trace.uses → MeetsAlone u w
meets_so u v w a b =
    let notes : v.form.trace.notes ≡ w.form.trace.notes = sym (ap (λ (x : UnitScope). x.form.trace.notes) b) in
    b ∙ (λ j. with_uses (a j) w.form.trace.uses) ∙ (λ j. with_notes (with_uses u w.form.trace.uses) (notes j))

-- a step, and then uses that are met
pub met_stays : (old new : Work) (region : Region) (u v w : UnitScope) (ls : List Frames) (t r : Noting) → Stays old new region u v ls t → Stands new w ls r → MeetsAlone v w → Stays old new region u w ls r
met_stays old new region u v w ls t r h e same =
    subst (λ (x : UnitScope). Stays old new region u x ls r) (sym same) (record {
      stands = subst (λ (x : UnitScope). Stands new x ls r) same e;
      work = h.work;
      counted = h.counted;
      same = record { unit = h.same.unit; number = h.same.number; root = h.same.root; libraries = h.same.libraries; roots = h.same.roots; uses = h.same.uses; nodes = h.same.nodes; numbers = record { defined = h.same.numbers.defined; numbers = h.same.numbers.numbers } };
    })

-- want of memory behind a step
pub left_behind : (old new : Work) (region : Region) (u v : UnitScope) (ls : List Frames) (t : Noting) → Stays old new region u v ls t → Leaves old new region u
left_behind old new region u v ls t h = let counted = h.counted in let few = h.stands.form.few_nodes in record { work = h.work; few = omega (arith, counted, few) }
