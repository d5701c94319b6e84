-- A macro use gives a tree of at most 4,194,304 nodes, and defines nothing.
use Rattle.std.proofs.Common.{◌≡◌, ℕ, ◌-◌, ◌≤◌, List, Bool, true, false, Option, Some, None, Result, Ok, Err, refl, sym, ap, subst}
use Rattle.std.specs.Prelude.{◌&&◌, nat_le, nat_lt, if◌then◌else◌}
use Rattle.std.proofs.lemmas.Bool.{leb-true}
use Rattle.scheme_model.specs.Trees.{Tree, Trees, Tail}
use Rattle.scheme_model.specs.Measures.{tree_size, tree_depth}
use Rattle.scheme_model.specs.Identifiers.{Number}
use Rattle.scheme_model.specs.Ident.{Ident as Identifier, Inserted}
use Rattle.scheme_model.specs.ExpansionFaults.{Fault, named, NoRule, UseBudget, NodeBudget, DepthBudget, ◌>>◌}
use Rattle.scheme_model.specs.RulesShape.{dots_of}
use Rattle.scheme_model.specs.Meaning.{same_meaning}
use Rattle.scheme_model.specs.Matching.{Chosen, matcher, first_match}
use Rattle.scheme_model.specs.Building.{Built, build_tree, within, or_lengths, build}
use Rattle.scheme_model.specs.Requirements.{Known}
use Rattle.scheme_model.specs.Cores.{Target, Core}
use Rattle.scheme_model.specs.Steps.{Broken, Step, ◌>>=◌, done, fails}
use Rattle.scheme_model.specs.Order.{Here, WaitingUse, Instance, Transformer, compared_asked, given, used, use_of, meet_waiting, max_uses, max_nodes}
use Rattle.scheme_model.specs.ScopedExpansion.{Frames}
use Rattle.scheme_model.proofs.Distinct.{ok_same}
use Rattle.syntax_tree.specs.declared.trees.Work.{Work}
use Rattle.syntax_tree.specs.declared.trees.table.Region.{Region}
use Rattle.unit_scopes.specs.Stepped.{with_uses}
use Rattle.unit_scopes.specs.Used.{InstanceFor}
use Rattle.unit_scopes.specs.Outcomes.{WorksOn}
use Rattle.feature_requirements.specs.declared.fault.ExpandFault.{ExpandFault}
use Rattle.feature_requirements.specs.declared.fault.ExpandFault.TheVariants as fault
use Rattle.unit_scopes.specs.declared.uses.Instance as code_instance
use Rattle.unit_scopes.specs.declared.scope.UnitScope.{UnitScope}
use Rattle.expander.specs.Ready.{rules_asked, use_met}
use Rattle.noted_steps.specs.Noting.{Noting, noting}
use Rattle.noted_steps.specs.Standing.{Stands, with_notes}
use Rattle.noted_steps.specs.Outcomes.{EndsHere}
use Rattle.noted_steps.proofs.OutcomeLaws.{bound_goes, bound_fails}
use Rattle.noted_steps.proofs.UsesMet.{met_stays}

-- ---- what is built is small

both_true : (a b : Bool) → (a && b) ≡ true → b ≡ true
both_true true b h = h
both_true false b h = absurd cc

abbrev Outcome : Type 0
Outcome = Result (Built (Tree Identifier)) (Fault Identifier)

abbrev fine : Built (Tree Identifier) → Outcome
fine x = Ok x

abbrev too_deep : Outcome
too_deep = Err DepthBudget

abbrev too_many : Outcome
too_many = Err NodeBudget

module _ (left : ℕ) (x y : Built (Tree Identifier)) where
  deep_enough : (c : Bool) → (if c then fine x else too_deep) ≡ fine y → x ≡ y
  deep_enough true h = cc
  deep_enough false h = absurd cc

  small_enough : (b c : Bool) → (if b then (if c then fine x else too_deep) else too_many) ≡ fine y → (b ≡ true) × (x ≡ y)
  small_enough true c h = (refl, deep_enough c h)
  small_enough false c h = absurd cc

  within_small : within {A = Identifier} left x ≡ Ok y → tree_size y.value ≤ 4194304
  within_small h =
      let both = small_enough (nat_le x.count left && nat_le (tree_size x.value) 4194304) (nat_le (tree_depth x.value) 1000) h in
      subst (λ (z : Built (Tree Identifier)). tree_size z.value ≤ 4194304) both.1 (leb-true (tree_size x.value) 4194304 (both_true (nat_le x.count left) (nat_le (tree_size x.value) 4194304) both.0))

built_small : (o : Option (Built (Tree Identifier))) (left : ℕ) (y : Built (Tree Identifier)) → (or_lengths {A = Identifier} o >> within left) ≡ Ok y → tree_size y.value ≤ 4194304
built_small None left y h = absurd cc
built_small (Some x) left y h = within_small left x y h

-- ---- a use

pub record UseLeaves (s : Noting) (p : Result (Instance Identifier) Broken × Noting) : Type 0 where
  pub definitions : p.1.definitions ≡ s.definitions
  pub small : (i : Instance Identifier) → p.0 ≡ Ok i → tree_size i.tree ≤ 4194304

failed : (s t : Noting) (b : Broken) → t.definitions ≡ s.definitions → UseLeaves s (Err b, t)
failed s t b same = record { definitions = same; small = λ u h. absurd cc }

module _ (known : Known) (here : Here) (fs : Frames) (keyword : Target) (m : Transformer Frames Identifier) (ts : Trees Identifier) (tail : Tail Identifier) (s : Noting) where
  -- its comparisons are asked
  abbrev begun : Noting
  begun = (noting known).begin_use m.env ((noting known).ask (compared_asked (noting known) fs m ts tail) s)

  by_built : (r : Result (Built (Tree Identifier)) (Fault Identifier)) (w : WaitingUse Identifier) → ((b : Built (Tree Identifier)) → r ≡ Ok b → tree_size b.value ≤ 4194304) →
      UseLeaves s (given (λ i. i) here r begun >>= λ b t. done (record { tree = b.value; met = w }) ((noting known).spend b.count t))
  by_built (Ok b) w few = record {
    definitions = refl;
    small = λ i h.
        let is : b.value ≡ i.tree = ap (λ (x : Instance Identifier). x.tree) (ok_same Broken (record { tree = b.value; met = w }) i h) in
        subst (λ (u : Tree Identifier). tree_size u ≤ 4194304) is (few b refl);
  }
  by_built (Err e) w few = failed s begun _ refl

  by_rule : (k : Number) (o : Option (Chosen Identifier Identifier)) → UseLeaves s (used (noting known) here keyword m k o begun)
  by_rule k None = failed s begun (record { fault = NoRule (named keyword.ident keyword.occ); here = here }) refl
  by_rule k (Some c) =
      by_built (build (noting known).names m.rules (λ i. Inserted i k) c.rule.template c.match.bindings (max_nodes - ((noting known).counted begun).nodes)) (record { keyword = keyword; literals = c.match.met })
      (λ b h. built_small (build_tree (record { same = (noting known).names.same; insert = λ i. Inserted i k }) (dots_of (noting known).names m.rules) c.rule.template c.match.bindings) (max_nodes - ((noting known).counted begun).nodes) b h)

  abbrev chosen : Option (Chosen Identifier Identifier)
  chosen = first_match (matcher (noting known).names m.rules (λ l j. same_meaning ((noting known).means m.env s l) ((noting known).means fs s j))) m.rules.rules ts tail

  by_budget : (b : Bool) → UseLeaves s (if b then used (noting known) here keyword m ((noting known).next_use s) chosen begun else fails here UseBudget s)
  by_budget true = by_rule ((noting known).next_use s) chosen
  by_budget false = failed s s (record { fault = UseBudget; here = here }) refl

  pub use_leaves : UseLeaves s (use_of (noting known) here fs keyword m ts tail s)
  use_leaves = by_budget (nat_lt (s.uses s.form) max_uses)

-- ---- a use that is met at once

-- what would follow the met use follows the use
pub met_then : (q : Result (Instance Identifier) Broken × Noting) (met : Instance Identifier → Noting → Noting) (g : Tree Identifier → Step Noting Core) →
    (q >>= λ i t. g i.tree (met i t)) ≡ ((q >>= λ i t. done i.tree (met i t)) >>= g)
met_then (Ok i, t) met g = refl
met_then (Err e, t) met g = refl

module _ (known : Known) (here : Here) (fs : Frames) (keyword : Target) (m : Transformer Frames Identifier) (ts : Trees Identifier) (tail : Tail Identifier) (s : Noting) (old new : Work) (region : Region) (u v w : UnitScope) (ls : List Frames) where
  abbrev pub one_use : Result (Instance Identifier) Broken × Noting
  one_use = use_of (noting known) here fs keyword m ts tail (rules_asked known keyword s)

  abbrev meeting : Instance Identifier → Step Noting (Tree Identifier)
  meeting i t = done i.tree (meet_waiting (noting known) fs i.met t)

  pub use_ends : (x : code_instance.Instance) (h : EndsHere (InstanceFor new region v.unit v.form.number) old new region u v ls (Ok x) one_use) → Stands new w ls (meet_waiting (noting known) fs h.0.met one_use.1) → w ≡ with_notes (with_uses v w.form.trace.uses) w.form.trace.notes →
      EndsHere (WorksOn new region) old new region u w ls (Ok x.tree) (use_met known here fs keyword m ts tail s)
  use_ends x h e same =
      subst (λ (q : Result (Tree Identifier) Broken × Noting). EndsHere (WorksOn new region) old new region u w ls (Ok x.tree) q) (sym (bound_goes one_use meeting h.0 h.2))
      (h.0.tree, met_stays old new region u v w ls one_use.1 (meet_waiting (noting known) fs h.0.met one_use.1) h.1 e same, refl, h.3.0)

  pub use_breaks : {X Y : Type 0} (P : X → Instance Identifier → Type 0) (Q : Y → Tree Identifier → Type 0) (e : ExpandFault) → EndsHere P old new region u v ls (Err e) one_use → EndsHere Q old new region u v ls (Err e) (use_met known here fs keyword m ts tail s)
  use_breaks P Q (fault.At e) h =
      subst (λ (q : Result (Tree Identifier) Broken × Noting). EndsHere Q old new region u v ls (Err (fault.At e)) q) (sym (bound_fails one_use meeting h.1.0 h.1.1)) (h.0, (h.1.0, refl, h.1.2))
  use_breaks P Q fault.Full h = h
  use_breaks P Q fault.Memory h = h
