-- Steps that calls do, from whatever state and frames the scopes of the code stand for: made of the steps of other calls.
use Rattle.std.proofs.Common.{◌≡◌, ℕ, List, Option, Result, Ok, Err, sym, subst}
use Rattle.std.specs.Result.{IsErrAnd}
use Rattle.scheme_model.specs.declared.Occ.{Occ}
use Rattle.scheme_model.specs.Requirements.{Known}
use Rattle.scheme_model.specs.Steps.{Broken, Step, ◌>>=◌, done}
use Rattle.scheme_model.specs.Expression.{node}
use Rattle.scheme_model.specs.ScopedExpansion.{Frames}
use Rattle.syntax_tree.specs.declared.trees.Work.{Work}
use Rattle.syntax_tree.specs.declared.trees.table.Region.{Region}
use Rattle.feature_requirements.specs.Judged.{Knows}
use Rattle.unit_scopes.specs.Outcomes.{At}
use Rattle.expander.specs.Ready.{BeginsBelow}
use Rattle.expander.specs.declared.expressions.At as code_at
use Rattle.feature_requirements.specs.declared.fault.ExpandFault.{ExpandFault}
use Rattle.unit_scopes.specs.declared.scope.UnitScope.{UnitScope}
use Rattle.expander.proofs.RowLaws.{ends_mapped}
use Rattle.expander.proofs.BelowLaws.{below_at, below_knows, node_below, node_unbegun}
use Rattle.expander.proofs.LoopLaws.{knows_on}
use Rattle.noted_steps.specs.Noting.{Noting, noting}
use Rattle.noted_steps.specs.Standing.{Stands}
use Rattle.noted_steps.specs.Stepped.{spent}
use Rattle.noted_steps.specs.Outcomes.{Ends, Runs}
use Rattle.noted_steps.proofs.OutcomeLaws.{ends_fails}
use Rattle.noted_steps.proofs.NodeLaws.{ends_err, ends_then}

-- ---- the same step, told otherwise; a fault that is handed on; want of memory

module _ {X Y : Type 0} (P : List Frames → X → Y → Type 0) (a c : Work) (region : Region) (u v : UnitScope) (scope : ℕ) where
  pub runs_same : (result : Result X ExpandFault) (f g : Known → Frames → Step Noting Y) → ((known : Known) (fs : Frames) (s : Noting) → f known fs s ≡ g known fs s) → Runs P a c region u v scope result g → Runs P a c region u v scope result f
  runs_same result f g same runs = λ known ls s fs knows stands at.
      subst (λ (p : Result Y Broken × Noting). Ends P a c region u v ls result p) (sym (same known fs s)) (runs known ls s fs knows stands at)

  pub runs_err : (r : Result X ExpandFault) (x : ExpandFault) (f : Known → Frames → Step Noting Y) → IsErrAnd r (λ g. g ≡ x) → Runs P a c region u v scope (Err x) f → Runs P a c region u v scope r f
  runs_err r x f is runs = λ known ls s fs knows stands at. ends_err P a c region u v ls r x (f known fs s) is (runs known ls s fs knows stands at)

-- the value becomes another
module _ {X Y V Z : Type 0} (P : List Frames → X → Y → Type 0) (Q : List Frames → V → Z → Type 0) (a c : Work) (region : Region) (u v : UnitScope) (scope : ℕ) (f : Known → Frames → Step Noting Y) where
  pub runs_mapped : (x : X) (z : V) (k : Y → Z) → ((layout : List Frames) (y : Y) → P layout x y → Q layout z (k y)) → Runs P a c region u v scope (Ok x) f → Runs Q a c region u v scope (Ok z) (λ known fs s. f known fs s >>= λ y. done (k y))
  runs_mapped x z k on runs = λ known ls s fs knows stands at. ends_mapped P Q a c region u v ls x z (f known fs s) k on (runs known ls s fs knows stands at)

  -- or its fault is the whole step's
  pub runs_fails : (x : ExpandFault) (k : Known → Frames → Y → Step Noting Z) → Runs P a c region u v scope (Err x) f → Runs Q a c region u v scope (Err x) (λ known fs s. f known fs s >>= k known fs)
  runs_fails x k runs = λ known ls s fs knows stands at. ends_fails P Q a c region u v ls x (f known fs s) (k known fs) (runs known ls s fs knows stands at)

-- ---- a core node

module _ (work new : Work) (region : Region) (u w v : UnitScope) (at below : code_at.At) (n : ℕ) (h : BeginsBelow u w at n (Ok below)) where
  module _ {X Y V Z : Type 0} (P : List Frames → X → Y → Type 0) (Q : List Frames → V → Z → Type 0) (g : Known → Frames → ℕ → Option Occ → Step Noting Y) where
    pub node_runs : (x : X) (z : V) (k : Known → Frames → Noting → Y → Z) →
        ((known : Known) (ls : List Frames) (s : Noting) (fs : Frames) (layout : List Frames) (y : Y) → Stands work w ls (spent n s) → At ls at.scope fs → P layout x y → Q layout z (k known fs (spent n s) y)) →
        Runs P work new region w v below.scope (Ok x) (λ known fs. g known fs below.depth below.here) →
        Runs Q work new region u v at.scope (Ok z) (λ known fs. node (noting known) at.here n at.depth (λ d t. g known fs d at.here t >>= λ y. done (k known fs t y)))
    node_runs x z k on runs = λ known ls s fs knows stands there.
        node_below known work new region u w v ls s at below n stands h Q (λ d o t. g known fs d o t >>= λ y. done (k known fs t y)) (Ok z)
        (λ now. ends_mapped P Q work new region w v ls x z (g known fs below.depth below.here (spent n s)) (k known fs (spent n s)) (λ layout y. on known ls s fs layout y now there)
        (runs known ls (spent n s) fs (below_knows u w at below n h known knows) now (below_at u w at below n h ls fs there)))

    pub node_stops : (x : ExpandFault) (k : Known → Frames → Noting → Y → Step Noting Z) → Runs P work new region w v below.scope (Err x) (λ known fs. g known fs below.depth below.here) →
        Runs Q work new region u v at.scope (Err x) (λ known fs. node (noting known) at.here n at.depth (λ d t. g known fs d at.here t >>= k known fs t))
    node_stops x k runs = λ known ls s fs knows stands there.
        node_below known work new region u w v ls s at below n stands h Q (λ d o t. g known fs d o t >>= k known fs t) (Err x)
        (λ now. ends_fails P Q work new region w v ls x (g known fs below.depth below.here (spent n s)) (k known fs (spent n s))
        (runs known ls (spent n s) fs (below_knows u w at below n h known knows) now (below_at u w at below n h ls fs there)))

pub node_none : {V B : Type 0} (Q : List Frames → V → B → Type 0) (work : Work) (region : Region) (u w : UnitScope) (at : code_at.At) (n : ℕ) (x : ExpandFault) (parts : Known → Frames → ℕ → Step Noting B) → BeginsBelow u w at n (Err x) →
    Runs Q work work region u w at.scope (Err x) (λ known fs. node (noting known) at.here n at.depth (parts known fs))
node_none Q work region u w at n x parts h = λ known ls s fs knows stands there. node_unbegun Q known work region u w ls s at n x (parts known fs) stands h

-- ---- one call behind another

module _ {X Y V Z : Type 0} (P : List Frames → X → Y → Type 0) (Q : List Frames → V → Z → Type 0) (a b c : Work) (region : Region) (u w v : UnitScope) (scope : ℕ) (f : Known → Frames → Step Noting Y) (g : Known → Frames → Y → Step Noting Z) where
  pub runs_then : (x : X) (result : Result V ExpandFault) → Runs P a b region u w scope (Ok x) f →
      ((known : Known) (ls : List Frames) (s : Noting) (fs : Frames) (y : Y) → Knows w.libraries known → Stands b w ls s → At ls scope fs → P ls x y → Ends Q b c region w v ls result (g known fs y s)) →
      Runs Q a c region u v scope result (λ known fs s. f known fs s >>= g known fs)
  runs_then x result first next = λ known ls s fs knows stands at.
      ends_then P Q a b c region u w v ls x result (f known fs s) (g known fs) (first known ls s fs knows stands at)
      (λ y m held. next known m.layout (f known fs s).1 fs y (knows_on known u w m.stays.same knows) m.stays.stands (m.kept scope fs at) held)
