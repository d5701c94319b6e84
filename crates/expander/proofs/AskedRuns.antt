-- Steps behind what was asked: notes alone are changed, and then they are done.
use Rattle.std.proofs.Common.{◌≡◌, ℕ, List, [], ◌∷◌, Result, Ok, refl, sym, ap, subst, arith}
use Rattle.std.specs.BTreeSet.{BTreeSet}
use Rattle.std.specs.Prelude.{String}
use Rattle.std.specs.declared.alloc.Global.{Global}
use Rattle.scheme_model.specs.ExpansionFaults.{Named}
use Rattle.scheme_model.specs.Ident.{Ident as Identifier}
use Rattle.scheme_model.specs.Order.{Headed, Meant}
use Rattle.scheme_model.specs.Requirements.{Known}
use Rattle.scheme_model.specs.Steps.{Broken, Step}
use Rattle.scheme_model.specs.ScopedExpansion.{Frames, ScopedState}
use Rattle.syntax_tree.specs.declared.trees.Work.{Work}
use Rattle.syntax_tree.specs.declared.trees.table.Region.{Region}
use Rattle.core_forms.specs.Parts.{IsName}
use Rattle.core_forms.specs.declared.shape.NamePart.{NamePart}
use Rattle.core_tree.specs.Names.{IsTarget}
use Rattle.core_tree.specs.declared.cores.Target as code_target
use Rattle.feature_requirements.specs.Judged.{Knows}
use Rattle.feature_requirements.specs.declared.fault.ExpandFault.{ExpandFault}
use Rattle.unit_scopes.specs.Outcomes.{At, SameForm, IsEnough, IsEnoughBelow}
use Rattle.unit_scopes.specs.State.{Stands as PlainStands}
use Rattle.unit_scopes.specs.Used.{target_at as used_at}
use Rattle.unit_scopes.specs.declared.scope.UnitScope.{UnitScope}
use Rattle.noted_steps.specs.Noting.{Noting, state_of, noting}
use Rattle.noted_steps.specs.Standing.{Stands, TargetFor, with_notes}
use Rattle.noted_steps.specs.Outcomes.{Stays, Ends, Runs}
use Rattle.noted_steps.proofs.NoteLaws.{plainly}
use Rattle.unit_scopes.proofs.OutcomeLaws.{numbers_stay}
use Rattle.noted_steps.proofs.OutcomeLaws.{moves_here, noted_stays, ends_after}
use Rattle.expander.specs.Ready.{BeginsBelow}
use Rattle.expander.specs.declared.expressions.At as code_at

pub noted_same : (u w : UnitScope) → w ≡ with_notes u w.form.trace.notes → SameForm u w
noted_same u w same = subst (λ (x : UnitScope). SameForm u x) (sym same) (record { unit = refl; number = refl; root = refl; libraries = refl; roots = refl; uses = omega arith; nodes = omega arith; numbers = numbers_stay u (with_notes u w.form.trace.notes) refl refl })

pub noted_knows : (u w : UnitScope) (known : Known) → w ≡ with_notes u w.form.trace.notes → Knows u.libraries known → Knows w.libraries known
noted_knows u w known same knows = subst (λ (l : BTreeSet (String Global)). Knows l known) (sym (ap (λ (x : UnitScope). x.libraries) same)) knows

-- a step that opens no scope, and then one that may
pub stays_then : {X Y : Type 0} (P : List Frames → X → Y → Type 0) (a b c : Work) (region : Region) (u w v : UnitScope) (ls : List Frames) (s : Noting) (result : Result X ExpandFault) (p : Result Y Broken × Noting) → Stays a b region u w ls s → Ends P b c region w v ls result p → Ends P a c region u v ls result p
unfolding moves_here
stays_then P a b c region u w v ls s result p h ends = ends_after P a b c region u w v ls s result p (moves_here a b region u w ls s h) ends

module _ {X Y : Type 0} (P : List Frames → X → Y → Type 0) (old new : Work) (region : Region) (u w v : UnitScope) (scope : ℕ) (same : w ≡ with_notes u w.form.trace.notes) (asked : Known → Frames → Noting → Noting)
    (notes : (known : Known) (ls : List Frames) (s : Noting) (fs : Frames) → Stands old u ls s → At ls scope fs → Stands old w ls (asked known fs s)) where
  pub asked_runs : (result : Result X ExpandFault) (g : Known → Frames → Step Noting Y) → Runs P old new region w v scope result g → Runs P old new region u v scope result (λ known fs s. g known fs (asked known fs s))
  asked_runs result g runs = λ known ls s fs knows stands at.
      let now = notes known ls s fs stands at in
      let a = asked known fs s in
      stays_then P old old new region u w v ls a result (g known fs a) (noted_stays old region u w ls s a stands same now) (runs known ls a fs (noted_knows u w known same knows) now at)

-- enough turns, by the uses that were begun
pub enough_noted : (u w : UnitScope) (depth turns : ℕ) → w ≡ with_notes u w.form.trace.notes → IsEnough depth u.form.budget.uses turns → IsEnough depth w.form.budget.uses turns
enough_noted u w depth turns same enough = subst (λ (x : UnitScope). IsEnough depth x.form.budget.uses turns) (sym same) enough

pub enough_below_noted : (u w : UnitScope) (depth turns : ℕ) → w ≡ with_notes u w.form.trace.notes → IsEnoughBelow depth u.form.budget.uses turns → IsEnoughBelow depth w.form.budget.uses turns
enough_below_noted u w depth turns same enough = subst (λ (x : UnitScope). IsEnoughBelow depth x.form.budget.uses turns) (sym same) enough

-- what a name means is noted, by a target of the code: the same note, whether it stands at a head or not
pub meant_notes : (old : Work) (w w1 : UnitScope) (at below : code_at.At) (count : ℕ) (u : UnitScope) → BeginsBelow u w at count (Ok below) → (x : NamePart) (n : Named Identifier) → IsName old x n → (target : code_target.Target) →
    ((ls : List Frames) (s : ScopedState) (fs : Frames) (n : Named Identifier) → PlainStands old w ls s → At ls at.scope fs → IsName old x n → IsTarget old.symbols s.unit s.form target (used_at s fs n)) →
    ((known : Known) (ls : List Frames) (s : Noting) (fs : Frames) (n : Named Identifier) → Stands old w ls s → TargetFor old s fs target n → Stands old w1 ls ((noting known).ask (Headed fs n.name ∷ []) s)) →
    (known : Known) (ls : List Frames) (s : Noting) (fs : Frames) → Stands old w ls s → At ls below.scope fs → Stands old w1 ls ((noting known).ask (Meant fs n.name ∷ []) s)
meant_notes old w w1 at below count u h x n name target finds notes known ls s fs stands there =
    notes known ls s fs n stands (finds ls (state_of s) fs n (plainly old w ls s stands) (subst (λ (k : ℕ). At ls k fs) h.0 there) name)
