-- A core node whose parts stand one level deeper: it begins, its parts are worked, and the core is made of them.
use Rattle.std.proofs.Common.{ℕ, List, Option, Result, Ok, Err, sym, ap, subst, arith}
use Rattle.scheme_model.specs.declared.Occ.{Occ}
use Rattle.scheme_model.specs.Requirements.{Known}
use Rattle.scheme_model.specs.Steps.{Broken, Step, ◌>>=◌, done}
use Rattle.scheme_model.specs.Expression.{node}
use Rattle.scheme_model.specs.ScopedExpansion.{Frames}
use Rattle.syntax_tree.specs.declared.trees.Work.{Work}
use Rattle.syntax_tree.specs.declared.trees.table.Region.{Region}
use Rattle.std.specs.BTreeSet.{BTreeSet}
use Rattle.std.specs.Prelude.{String}
use Rattle.std.specs.declared.alloc.Global.{Global}
use Rattle.feature_requirements.specs.Judged.{Knows}
use Rattle.unit_scopes.specs.Outcomes.{At, IsEnough, IsEnoughBelow, HasRoom, Spends}
use Rattle.expander.specs.Ready.{BeginsBelow}
use Rattle.expander.specs.declared.expressions.At as code_at
use Rattle.feature_requirements.specs.declared.fault.ExpandFault.{ExpandFault}
use Rattle.feature_requirements.specs.declared.fault.ExpandFault.TheVariants as fault
use Rattle.unit_scopes.specs.declared.scope.UnitScope.{UnitScope}
use Rattle.expander.proofs.AfterLaws.{node_then, begins_look, room_begun, spends_begun, enough_deeper}
use Rattle.expander.proofs.RowLaws.{ends_mapped}
use Rattle.noted_steps.specs.Noting.{Noting, noting}
use Rattle.noted_steps.specs.Standing.{Stands}
use Rattle.noted_steps.specs.Stepped.{spent}
use Rattle.noted_steps.specs.Outcomes.{Ends}
use Rattle.noted_steps.proofs.OutcomeLaws.{here_ends, ends_fails}
use Rattle.noted_steps.proofs.NodeLaws.{begins_fails}
use Rattle.noted_steps.specs.Kept.{CanLook}

-- ---- where the parts stand

module _ (u w : UnitScope) (at below : code_at.At) (n : ℕ) (h : BeginsBelow u w at n (Ok below)) where
  pub below_at : (ls : List Frames) (fs : Frames) → At ls at.scope fs → At ls below.scope fs
  below_at ls fs there = subst (λ (k : ℕ). At ls k fs) (sym h.0) there

  pub below_knows : (known : Known) → Knows u.libraries known → Knows w.libraries known
  below_knows known knows = subst (λ (l : BTreeSet (String Global)). Knows l known) (sym (ap (λ (x : UnitScope). x.libraries) h.2.2)) knows

  pub below_enough : (turns : ℕ) → IsEnoughBelow at.depth u.form.budget.uses turns → IsEnough below.depth w.form.budget.uses turns
  below_enough turns enough = enough_deeper at.depth below.depth u.form.budget.uses w.form.budget.uses turns h.2.0 (omega (arith, ap (λ (x : UnitScope). x.form.budget.uses) h.2.2)) enough

  pub below_room : (more : ℕ) → HasRoom more u → HasRoom more w
  below_room more room = room_begun more u w at.here n at.depth below.depth h.2 room

  pub below_spends : Spends 0 u w
  below_spends = spends_begun u w at.here n at.depth below.depth h.2

  pub below_look : (work : Work) → CanLook work u at.scope → CanLook work w below.scope
  below_look work look = subst (λ (k : ℕ). CanLook work w k) (sym h.0) (begins_look work u w at.scope at.here n at.depth below.depth look h.2)

-- ---- what is done there

module _ (known : Known) (work new : Work) (region : Region) (u w v : UnitScope) (ls : List Frames) (s : Noting) (at below : code_at.At) (n : ℕ) (e : Stands work u ls s) (h : BeginsBelow u w at n (Ok below)) where
  pub node_below : {V B : Type 0} (Q : List Frames → V → B → Type 0) (step : ℕ → Option Occ → Step Noting B) (result : Result V ExpandFault) →
      (Stands work w ls (spent n s) → Ends Q work new region w v ls result (step below.depth below.here (spent n s))) → Ends Q work new region u v ls result (node (noting known) at.here n at.depth (λ d. step d at.here) s)
  node_below Q step result next =
      node_then known work new region u w v ls s at.here n e Q (λ d. step d at.here) at.depth below.depth result h.2
      (λ stands. subst (λ (o : Option Occ). Ends Q work new region w v ls result (step below.depth o (spent n s))) h.1 (next stands))

  -- the core is made of what the parts come to
  pub node_mapped : {X Y V Z : Type 0} (P : List Frames → X → Y → Type 0) (Q : List Frames → V → Z → Type 0) (step : ℕ → Option Occ → Step Noting Y) (x : X) (z : V) (k : Y → Z) → ((layout : List Frames) (y : Y) → P layout x y → Q layout z (k y)) →
      (Stands work w ls (spent n s) → Ends P work new region w v ls (Ok x) (step below.depth below.here (spent n s))) → Ends Q work new region u v ls (Ok z) (node (noting known) at.here n at.depth (λ d t. step d at.here t >>= λ y. done (k y)) s)
  node_mapped P Q step x z k on next =
      node_below Q (λ d o t. step d o t >>= λ y. done (k y)) (Ok z) (λ stands. ends_mapped P Q work new region w v ls x z (step below.depth below.here (spent n s)) k on (next stands))

  -- a part's fault is the node's
  pub node_failed : {X Y V Z : Type 0} (P : List Frames → X → Y → Type 0) (Q : List Frames → V → Z → Type 0) (step : ℕ → Option Occ → Step Noting Y) (x : ExpandFault) (k : Y → Step Noting Z) →
      (Stands work w ls (spent n s) → Ends P work new region w v ls (Err x) (step below.depth below.here (spent n s))) → Ends Q work new region u v ls (Err x) (node (noting known) at.here n at.depth (λ d t. step d at.here t >>= k) s)
  node_failed P Q step x k next =
      node_below Q (λ d o t. step d o t >>= k) (Err x) (λ stands. ends_fails P Q work new region w v ls x (step below.depth below.here (spent n s)) k (next stands))

-- a fault says nothing of values
pub same_fault : {X Y V : Type 0} (P : List Frames → X → Y → Type 0) (Q : List Frames → V → Y → Type 0) (a c : Work) (region : Region) (u v : UnitScope) (ls : List Frames) (e : ExpandFault) (p : Result Y Broken × Noting) → Ends P a c region u v ls (Err e) p → Ends Q a c region u v ls (Err e) p
same_fault P Q a c region u v ls (fault.At e) p h = h
same_fault P Q a c region u v ls fault.Full p h = h
same_fault P Q a c region u v ls fault.Memory p h = h

-- the node can't begin
pub node_unbegun : {V B : Type 0} (Q : List Frames → V → B → Type 0) (known : Known) (work : Work) (region : Region) (u w : UnitScope) (ls : List Frames) (s : Noting) (at : code_at.At) (n : ℕ) (x : ExpandFault) (parts : ℕ → Step Noting B) → Stands work u ls s → BeginsBelow u w at n (Err x) →
    Ends Q work work region u w ls (Err x) (node (noting known) at.here n at.depth parts s)
node_unbegun {V} {B} Q known work region u w ls s at n x parts e h =
    same_fault (λ (l : List Frames) (y : V) (z : B). Q ls y z) Q work work region u w ls x (node (noting known) at.here n at.depth parts s)
    (here_ends (λ (y : V) (z : B). Q ls y z) work work region u w ls (Err x) (node (noting known) at.here n at.depth parts s) (begins_fails known work region u w ls s at.here n e parts at.depth (λ (y : V) (z : B). Q ls y z) x h))
