-- A core node that begins, and nodes that are counted, while what is asked is noted: from what the code does to its counts to how the definition's step goes on or
-- fails, with what the code has after it.
use Rattle.std.proofs.Common.{◌≡◌, ℕ, zero, suc, ◌+◌, ◌<◌, ◌≤◌, List, Bool, cond, Option, None, Result, Ok, Err, refl, sym, ap, ◌∙◌, subst, inl, inr, arith}
use Rattle.std.proofs.lemmas.Bool.{le-leb, lt-leb}
use Rattle.scheme_model.specs.declared.Occ.{Occ}
use Rattle.scheme_model.specs.Ident.{Ident as Identifier}
use Rattle.scheme_model.specs.ExpansionFaults.{Fault, NodeBudget, DepthBudget, fault_code, fault_name, error_text}
use Rattle.scheme_model.specs.Requirements.{Known}
use Rattle.scheme_model.specs.Steps.{Broken, Step, ◌>>=◌, done, fails}
use Rattle.scheme_model.specs.Order.{counting, max_nodes}
use Rattle.scheme_model.specs.Expression.{node}
use Rattle.scheme_model.specs.ScopedExpansion.{Frames}
use Rattle.syntax_tree.specs.declared.trees.Work.{Work}
use Rattle.syntax_tree.specs.declared.trees.table.Region.{Region}
use Rattle.feature_requirements.specs.Faults.{plain_fault}
use Rattle.unit_scopes.specs.Counts.{with_nodes, Counts, FailsToBegin, Begins}
use Rattle.noted_steps.specs.Noting.{Noting, noting}
use Rattle.noted_steps.specs.Standing.{Stands}
use Rattle.noted_steps.specs.Stepped.{spent}
use Rattle.noted_steps.specs.Outcomes.{Stays, Moves, Ends, EndsHere}
use Rattle.feature_requirements.specs.declared.fault.ExpandFault.{ExpandFault}
use Rattle.unit_scopes.specs.declared.scope.UnitScope.{UnitScope}
use Rattle.unit_scopes.proofs.NodeLaws.{plain_is}
use Rattle.unit_scopes.proofs.OutcomeLaws.{grows_itself, numbers_stay}
use Rattle.noted_steps.proofs.CountingStands.{nodes_stand}
use Rattle.noted_steps.proofs.OutcomeLaws.{stays_itself, ends_after, bound_goes, moves_here}
use Rattle.std.specs.Result.{IsErrAnd}

-- a step that fails at once, with nothing done
pub fails_here : {X Y : Type 0} (P : X → Y → Type 0) (work : Work) (region : Region) (u : UnitScope) (ls : List Frames) (s : Noting) (here : Option Occ) (f : Fault Identifier) → Stands work u ls s → fault_name f ≡ None → error_text f ≡ None →
    EndsHere P work work region u u ls (Err (plain_fault here (fault_code f))) (fails {A = Y} here f s)
fails_here P work region u ls s here f e named text = (stays_itself work region u ls s e, (record { fault = f; here = here }, refl, plain_is work.symbols here f named text))

-- ---- counts

-- nodes are counted, and nothing else changes
pub spends : (work : Work) (region : Region) (u : UnitScope) (ls : List Frames) (s : Noting) (n : ℕ) → u.form.budget.nodes + n ≤ max_nodes → Stands work u ls s → Stays work work region u (with_nodes u n) ls (spent n s)
spends work region u ls s n within e = record {
  stands = nodes_stand work u ls s n within e;
  work = grows_itself work region;
  counted = omega arith;
  same = record { unit = refl; number = refl; root = refl; libraries = refl; roots = refl; uses = omega arith; nodes = omega arith; numbers = numbers_stay u (with_nodes u n) refl refl };
}

module _ (known : Known) (work : Work) (region : Region) (u : UnitScope) (ls : List Frames) (s : Noting) (here : Option Occ) (n : ℕ) (e : Stands work u ls s) where
  counted_here : u.form.budget.nodes + n ≡ s.nodes s.form + n
  counted_here = ap (λ m. m + n) e.form.nodes

  abbrev counted : Bool → Result (Unit {0}) Broken × Noting
  counted b = cond b (done tt (spent n s)) (fails here NodeBudget s)

  pub counting_goes : u.form.budget.nodes + n ≤ 200000 → counting (noting known) here n s ≡ done tt (spent n s)
  counting_goes within = ap counted (le-leb (s.nodes s.form + n) 200000 (omega (arith, within, counted_here)))

  pub counting_fails : 200000 < u.form.budget.nodes + n → counting (noting known) here n s ≡ fails here NodeBudget s
  counting_fails above = ap counted (lt-leb (s.nodes s.form + n) 200000 (omega (arith, above, counted_here)))

  module _ {B : Type 0} (parts : ℕ → Step Noting B) where
    abbrev begun : ℕ → Result (Unit {0}) Broken × Noting → Result B Broken × Noting
    begun below p = p >>= λ done. parts below

    pub node_goes : (depth below : ℕ) → depth ≡ below + 1 → u.form.budget.nodes + n ≤ 200000 → node (noting known) here n depth parts s ≡ parts below (spent n s)
    node_goes depth below is within =
        let deeper : depth ≡ suc below = omega (arith, is) in
        ap (λ (d : ℕ). node (noting known) here n d parts s) deeper ∙ ap (begun below) (counting_goes within)

    pub node_deep : (depth : ℕ) → depth ≡ 0 → node (noting known) here n depth parts s ≡ fails here DepthBudget s
    node_deep depth is = ap (λ (d : ℕ). node (noting known) here n d parts s) is

    pub node_full : (depth : ℕ) → 0 < depth → 200000 < u.form.budget.nodes + n → node (noting known) here n depth parts s ≡ fails here NodeBudget s
    node_full zero is above = absurd (omega (arith, is))
    node_full (suc below) is above = ap (begun below) (counting_fails above)

-- ---- by the code's counts

module _ (known : Known) (work : Work) (region : Region) (u v : UnitScope) (ls : List Frames) (s : Noting) (here : Option Occ) (n : ℕ) (e : Stands work u ls s) where
  pub counts_goes : {x : Unit {0}} → Counts u v here n (Ok x) → (counting (noting known) here n s ≡ done tt (spent n s)) × Stays work work region u v ls (spent n s)
  counts_goes h = (
    counting_goes known work region u ls s here n e h.0,
    subst (λ (w : UnitScope). Stays work work region u w ls (spent n s)) (sym h.1) (spends work region u ls s n h.0 e),
  )

  pub counts_fails : {X : Type 0} (P : X → Unit {0} → Type 0) (x : ExpandFault) → Counts u v here n (Err x) → EndsHere P work work region u v ls (Err x) (counting (noting known) here n s)
  counts_fails {X} P x h =
      let now = fails_here {Y = Unit {0}} P work region u ls s here NodeBudget e refl refl in
      subst (λ (w : UnitScope). EndsHere P work work region u w ls (Err x) (counting (noting known) here n s)) (sym h.1)
      (subst (λ (y : ExpandFault). EndsHere P work work region u u ls (Err y) (counting (noting known) here n s)) (sym h.2)
      (subst (λ (p : Result (Unit {0}) Broken × Noting). EndsHere P work work region u u ls (Err (plain_fault here 45)) p) (sym (counting_fails known work region u ls s here n e h.0)) now))

  module _ {B : Type 0} (parts : ℕ → Step Noting B) (depth : ℕ) where
    -- the node begins, and its parts go on one level deeper
    pub begins_goes : (below : ℕ) → Begins u v here n depth (Ok below) → (node (noting known) here n depth parts s ≡ parts below (spent n s)) × Stays work work region u v ls (spent n s)
    begins_goes below h = (
      node_goes known work region u ls s here n e parts depth below h.0 h.1,
      subst (λ (w : UnitScope). Stays work work region u w ls (spent n s)) (sym h.2) (spends work region u ls s n h.1 e),
    )

    begins_not : {X : Type 0} (P : X → B → Type 0) (x : ExpandFault) → FailsToBegin u here n depth x → EndsHere P work work region u u ls (Err x) (node (noting known) here n depth parts s)
    begins_not {X} P x h =
        elim h [
          | inl deep ↦
              subst (λ (y : ExpandFault). EndsHere P work work region u u ls (Err y) (node (noting known) here n depth parts s)) (sym deep.1)
              (subst (λ (p : Result B Broken × Noting). EndsHere P work work region u u ls (Err (plain_fault here 46)) p) (sym (node_deep known work region u ls s here n e parts depth deep.0))
              (fails_here {Y = B} P work region u ls s here DepthBudget e refl refl))
          | inr full ↦
              subst (λ (y : ExpandFault). EndsHere P work work region u u ls (Err y) (node (noting known) here n depth parts s)) (sym full.2)
              (subst (λ (p : Result B Broken × Noting). EndsHere P work work region u u ls (Err (plain_fault here 45)) p) (sym (node_full known work region u ls s here n e parts depth full.0 full.1))
              (fails_here {Y = B} P work region u ls s here NodeBudget e refl refl))
        ]

    -- the node can't begin
    pub begins_fails : {X : Type 0} (P : X → B → Type 0) (x : ExpandFault) → Begins u v here n depth (Err x) → EndsHere P work work region u v ls (Err x) (node (noting known) here n depth parts s)
    begins_fails {X} P x h = subst (λ (w : UnitScope). EndsHere P work work region u w ls (Err x) (node (noting known) here n depth parts s)) (sym h.0) (begins_not P x h.1)

-- ---- steps by what came of the first

module _ {X Y V Z : Type 0} where
  -- a step that went on, and what is behind it
  pub ends_then : (P : List Frames → X → Y → Type 0) (Q : List Frames → V → Z → Type 0) (a b c : Work) (region : Region) (u w v : UnitScope) (ls : List Frames) (x : X) (result : Result V ExpandFault) (p : Result Y Broken × Noting) (f : Y → Step Noting Z) →
      Ends P a b region u w ls (Ok x) p →
      ((y : Y) (m : Moves a b region u w ls p.1) → P m.layout x y → Ends Q b c region w v m.layout result (f y p.1)) →
      Ends Q a c region u v ls result (p >>= f)
  ends_then P Q a b c region u w v ls x result p f h next =
      subst (λ (q : Result Z Broken × Noting). Ends Q a c region u v ls result q) (sym (bound_goes p f h.0 h.2))
      (ends_after Q a b c region u w v ls p.1 result (f h.0 p.1) h.1 (next h.0 h.1 h.3))

  -- a step that opens no scope, and what is behind it
  pub here_then : (P : X → Y → Type 0) (Q : List Frames → V → Z → Type 0) (a b c : Work) (region : Region) (u w v : UnitScope) (ls : List Frames) (x : X) (result : Result V ExpandFault) (p : Result Y Broken × Noting) (f : Y → Step Noting Z) →
      EndsHere P a b region u w ls (Ok x) p →
      ((y : Y) → Stays a b region u w ls p.1 → P x y → Ends Q b c region w v ls result (f y p.1)) →
      Ends Q a c region u v ls result (p >>= f)
  unfolding moves_here
  here_then P Q a b c region u w v ls x result p f h next =
      subst (λ (q : Result Z Broken × Noting). Ends Q a c region u v ls result q) (sym (bound_goes p f h.0 h.2))
      (ends_after Q a b c region u w v ls p.1 result (f h.0 p.1) (moves_here a b region u w ls p.1 h.1) (next h.0 h.1 h.3))

module _ {X Y : Type 0} where
  -- a step that is done, with this value
  pub here_done : (P : X → Y → Type 0) (a c : Work) (region : Region) (u v : UnitScope) (ls : List Frames) (x : X) (p : Result Y Broken × Noting) (y : Y) (t : Noting) → p ≡ done y t → Stays a c region u v ls t → P x y → EndsHere P a c region u v ls (Ok x) p
  here_done P a c region u v ls x p y t is stays held = subst (λ (q : Result Y Broken × Noting). EndsHere P a c region u v ls (Ok x) q) (sym is) (y, stays, refl, held)

  -- a fault that is handed on
  pub here_err : (P : X → Y → Type 0) (a c : Work) (region : Region) (u v : UnitScope) (ls : List Frames) (r : Result X ExpandFault) (e : ExpandFault) (p : Result Y Broken × Noting) → IsErrAnd r (λ f. f ≡ e) → EndsHere P a c region u v ls (Err e) p → EndsHere P a c region u v ls r p
  here_err P a c region u v ls (Ok x) e p h ends = absurd h
  here_err P a c region u v ls (Err f) e p h ends = subst (λ (g : ExpandFault). EndsHere P a c region u v ls (Err g) p) (sym h) ends

  pub ends_err : (P : List Frames → X → Y → Type 0) (a c : Work) (region : Region) (u v : UnitScope) (ls : List Frames) (r : Result X ExpandFault) (e : ExpandFault) (p : Result Y Broken × Noting) → IsErrAnd r (λ f. f ≡ e) → Ends P a c region u v ls (Err e) p → Ends P a c region u v ls r p
  ends_err P a c region u v ls (Ok x) e p h ends = absurd h
  ends_err P a c region u v ls (Err f) e p h ends = subst (λ (g : ExpandFault). Ends P a c region u v ls (Err g) p) (sym h) ends
