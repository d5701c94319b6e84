-- A macro use of which the comparisons were asked before, and rules that are read where they are defined.
use Rattle.std.proofs.Common.{◌≡◌, ◌+◌, ◌-◌, List, [], map, Bool, true, false, cond, Option, Some, None, Result, Ok, Err, refl, sym, ap, subst}
use Rattle.std.specs.Prelude.{nat_lt, nat_le}
use Rattle.scheme_model.specs.Ident.{Ident, Inserted}
use Rattle.scheme_model.specs.Identifiers.{Number}
use Rattle.scheme_model.specs.Trees.{Tree, Trees, Tail}
use Rattle.scheme_model.specs.ExpansionFaults.{Fault, UseBudget, NodeBudget}
use Rattle.scheme_model.specs.Meaning.{same_meaning}
use Rattle.scheme_model.specs.RulesShape.{Rules, role_of, dots_of, rules_of}
use Rattle.scheme_model.specs.Matching.{Chosen, matcher, first_match, compared}
use Rattle.scheme_model.specs.Building.{Built, build}
use Rattle.scheme_model.specs.Requirements.{Known}
use Rattle.scheme_model.specs.Cores.{Target}
use Rattle.scheme_model.specs.Steps.{Broken, ◌>>=◌, done, fails}
use Rattle.scheme_model.specs.Order.{Here, WaitingUse, Instance, Transformer, Alike, RulesParts, given, used, use_of, rules_at, max_uses, max_nodes}
use Rattle.scheme_model.specs.ScopedExpansion.{Frames, ScopedState}
use Rattle.scheme_model.specs.Measures.{tree_size}
use Rattle.syntax_tree.specs.Names.{AreToldApart}
use Rattle.syntax_tree.specs.declared.trees.Work.{Work}
use Rattle.syntax_tree.specs.declared.trees.table.Region.{Region}
use Rattle.core_tree.specs.declared.traces.Trace.{Trace}
use Rattle.feature_requirements.specs.declared.fault.ExpandFault.{ExpandFault}
use Rattle.unit_scopes.specs.Counts.{CountsSome}
use Rattle.unit_scopes.specs.Outcomes as plain
use Rattle.unit_scopes.specs.Searched.{searched}
use Rattle.unit_scopes.specs.declared.scope.UnitScope.{UnitScope}
use Rattle.noted_steps.specs.Noting.{Noting, state_of, with_state, noting}
use Rattle.noted_steps.specs.Outcomes.{EndsHere}
use Rattle.noted_steps.specs.Standing.{Stands}
use Rattle.noted_steps.specs.Used.{use_asked, compared_first}
use Rattle.noted_steps.proofs.Lifts.{lift_here, lift_same}

module _ (known : Known) (here : Here) (fs : Frames) (keyword : Target) (m : Transformer Frames Ident) (ts : Trees Ident) (tail : Tail Ident) (s : Noting) where
  abbrev Gives : Type 0
  Gives = Result (Instance Ident) Broken × Noting

  abbrev Plain : Type 0
  Plain = Result (Instance Ident) Broken × ScopedState

  abbrev lifted : Plain → Gives
  lifted p = (p.0, with_state s p.1)

  -- asked first, and then used
  pub use_is : use_of (noting known) here fs keyword m ts tail s ≡ use_asked (noting known) here fs keyword m ts tail (compared_first (noting known) fs m ts tail s)
  use_is = go (nat_lt (s.uses s.form) max_uses)
    where
      pairs : List (Ident × Ident)
      pairs = compared (role_of (noting known).names m.rules) (dots_of (noting known).names m.rules) m.rules.rules ts tail

      asked : Bool → Noting
      asked b = (noting known).ask (map (λ q. Alike m.env q.0 fs q.1) (cond b pairs [])) s

      rule : Option (Chosen Ident Ident)
      rule = first_match (matcher (noting known).names m.rules (λ l j. same_meaning ((noting known).means m.env s l) ((noting known).means fs s j))) m.rules.rules ts tail

      go : (b : Bool) → cond b (used (noting known) here keyword m ((noting known).next_use s) rule ((noting known).begin_use m.env (asked true))) (fails here UseBudget s)
          ≡ cond b (used (noting known) here keyword m ((noting known).next_use s) rule ((noting known).begin_use m.env (asked b))) (fails here UseBudget (asked b))
      go true = refl
      go false = refl

  abbrev begun : Noting
  begun = (noting known).begin_use m.env s

  by_built : (r : Result (Built (Tree Ident)) (Fault Ident)) (w : WaitingUse Ident) →
      (given (λ i. i) here r begun >>= λ b t. done (record { tree = b.value; met = w }) ((noting known).spend b.count t)) ≡ lifted (given (λ i. i) here r (state_of begun) >>= λ b t. done (record { tree = b.value; met = w }) ((searched known).spend b.count t))
  by_built (Ok b) w = refl
  by_built (Err e) w = refl

  by_rule : (k : Number) (o : Option (Chosen Ident Ident)) → used (noting known) here keyword m k o begun ≡ lifted (used (searched known) here keyword m k o (state_of begun))
  by_rule k None = refl
  by_rule k (Some c) =
      by_built (build (noting known).names m.rules (λ i. Inserted i k) c.rule.template c.match.bindings (max_nodes - ((noting known).counted begun).nodes)) (record { keyword = keyword; literals = c.match.met })

  by_budget : (b : Bool) (k : Number) (o : Option (Chosen Ident Ident)) →
      cond b (used (noting known) here keyword m k o begun) (fails here UseBudget s) ≡ lifted (cond b (used (searched known) here keyword m k o (state_of begun)) (fails here UseBudget (state_of s)))
  by_budget true k o = by_rule k o
  by_budget false k o = refl

  -- it is the use without notes
  pub use_lifted : use_asked (noting known) here fs keyword m ts tail s ≡ lifted (use_of (searched known) here fs keyword m ts tail (state_of s))
  use_lifted =
      by_budget (nat_lt (s.uses s.form) max_uses) ((noting known).next_use s)
      (first_match (matcher (noting known).names m.rules (λ l j. same_meaning ((noting known).means m.env s l) ((noting known).means fs s j))) m.rules.rules ts tail)

  -- ---- what it leaves

  abbrev StaysBeside : Plain → Type 0
  StaysBeside p = (p.1.table ≡ s.table) × (p.1.macros ≡ s.macros)

  beside_built : (r : Result (Built (Tree Ident)) (Fault Ident)) (w : WaitingUse Ident) → StaysBeside (given (λ i. i) here r (state_of begun) >>= λ b t. done (record { tree = b.value; met = w }) ((searched known).spend b.count t))
  beside_built (Ok b) w = (refl, refl)
  beside_built (Err e) w = (refl, refl)

  beside_rule : (k : Number) (o : Option (Chosen Ident Ident)) → StaysBeside (used (searched known) here keyword m k o (state_of begun))
  beside_rule k None = (refl, refl)
  beside_rule k (Some c) =
      beside_built (build (searched known).names m.rules (λ i. Inserted i k) c.rule.template c.match.bindings (max_nodes - ((searched known).counted (state_of begun)).nodes)) (record { keyword = keyword; literals = c.match.met })

  beside_budget : (b : Bool) (k : Number) (o : Option (Chosen Ident Ident)) → StaysBeside (cond b (used (searched known) here keyword m k o (state_of begun)) (fails here UseBudget (state_of s)))
  beside_budget true k o = beside_rule k o
  beside_budget false k o = (refl, refl)

  use_beside : StaysBeside (use_of (searched known) here fs keyword m ts tail (state_of s))
  use_beside =
      beside_budget (nat_lt (s.uses s.form) max_uses) ((noting known).next_use s)
      (first_match (matcher (noting known).names m.rules (λ l j. same_meaning ((noting known).means m.env s l) ((noting known).means fs s j))) m.rules.rules ts tail)

  -- the code makes it
  pub use_ends : {X : Type 0} (P : X → Instance Ident → Type 0) (old new : Work) (region : Region) (u v : UnitScope) (ls : List Frames) (r : Result X ExpandFault) → Stands old u ls s → AreToldApart new.symbols.idents →
      v.form.trace ≡ u.form.trace → v.macros ≡ u.macros → plain.EndsHere P old new region u v ls r (use_of (searched known) here fs keyword m ts tail (state_of s)) →
      EndsHere P old new region u v ls r (use_asked (noting known) here fs keyword m ts tail s)
  use_ends P old new region u v ls r e apart trace macros h =
      let b = use_beside in
      subst (λ (q : Gives). EndsHere P old new region u v ls r q) (sym use_lifted)
      (lift_here old new region u v ls s e apart P r (use_of (searched known) here fs keyword m ts tail (state_of s)) (record { notes = ap (λ (t : Trace). t.notes) trace; macros = macros; table = b.0; rules = b.1 }) h)

-- ---- rules where they are defined

module _ (known : Known) (here : Here) (t : Tree Ident) (r : RulesParts Ident) (s : Noting) where
  abbrev Rules_plain : Type 0
  Rules_plain = Result (Rules Ident) Broken × ScopedState

  abbrev rules_plain : Rules_plain
  rules_plain = rules_at (searched known) here t r (state_of s)

  abbrev RulesBeside : (Result (Rules Ident) Broken × Noting) → Rules_plain → Type 0
  RulesBeside q p = (q ≡ (p.0, with_state s p.1)) × (p.1.table ≡ s.table) × (p.1.macros ≡ s.macros)

  abbrev noted_count : Bool → Result (Unit {0}) Broken × Noting
  noted_count b = cond b (done tt ((noting known).spend (tree_size t) s)) (fails here NodeBudget s)

  abbrev plain_count : Bool → Result (Unit {0}) Broken × ScopedState
  plain_count b = cond b (done tt ((searched known).spend (tree_size t) (state_of s))) (fails here NodeBudget (state_of s))

  by_count : (b : Bool) (o : Result (Rules Ident) (Fault Ident)) → RulesBeside (noted_count b >>= λ done. given (λ i. i) here o) (plain_count b >>= λ done. given (λ i. i) here o)
  by_count true (Ok x) = (refl, refl, refl)
  by_count true (Err e) = (refl, refl, refl)
  by_count false o = (refl, refl, refl)

  rules_so : RulesBeside (rules_at (noting known) here t r s) rules_plain
  rules_so = by_count (nat_le (s.nodes s.form + tree_size t) max_nodes) (rules_of (noting known).names r.parts r.tail)

  pub rules_lifted : rules_at (noting known) here t r s ≡ (rules_plain.0, with_state s rules_plain.1)
  rules_lifted = rules_so.0

  -- the code reads them
  pub rules_end : {X : Type 0} (P : X → Rules Ident → Type 0) (work : Work) (region : Region) (u v : UnitScope) (ls : List Frames) (x : Result X ExpandFault) → Stands work u ls s → CountsSome u v → plain.EndsHere P work work region u v ls x rules_plain →
      EndsHere P work work region u v ls x (rules_at (noting known) here t r s)
  rules_end P work region u v ls x e counts h =
      let same = counts.2 in
      let b = rules_so in
      subst (λ (q : Result (Rules Ident) Broken × Noting). EndsHere P work work region u v ls x q) (sym rules_lifted)
      (lift_same P work region u v ls s e x rules_plain (record { notes = λ j. (same j).form.trace.notes; macros = λ j. (same j).macros; table = b.1; rules = b.2 }) h)
