-- A use gives a tree of at most 4,194,304 nodes.
use Rattle.std.proofs.Common.{◌≡◌, ℕ, ◌-◌, ◌≤◌, Bool, true, false, ◌&&◌, cond, Option, Some, None, Result, Ok, Err, refl, ap, subst, arith}
use Rattle.std.specs.Prelude.{nat_le, nat_lt}
use Rattle.std.proofs.lemmas.Bool.Decides.{nat_tests}
use Rattle.scheme_model.specs.declared.Occ.{Occ}
use Rattle.scheme_model.specs.Identifiers.{Number}
use Rattle.scheme_model.specs.Ident.{Ident as Identifier, Inserted, same_ident}
use Rattle.scheme_model.specs.Trees.{Tree, Trees, Tail}
use Rattle.scheme_model.specs.Measures.{tree_size, tree_depth}
use Rattle.scheme_model.specs.ExpansionFaults.{Fault, NodeBudget, DepthBudget, UseBudget, ◌>>◌}
use Rattle.scheme_model.specs.Requirements.{Known}
use Rattle.scheme_model.specs.RulesShape.{Rules, dots_of}
use Rattle.scheme_model.specs.Matching.{Chosen}
use Rattle.scheme_model.specs.Building.{Built, build_tree, within, or_lengths}
use Rattle.scheme_model.specs.Cores.{Target}
use Rattle.scheme_model.specs.Steps.{Broken, ◌>>=◌, done}
use Rattle.scheme_model.specs.Order.{WaitingUse, Instance, Transformer, given, use_of}
use Rattle.scheme_model.specs.Order as order
use Rattle.scheme_model.specs.ScopedExpansion.{Frames, ScopedState, next_number}
use Rattle.scheme_model.proofs.Distinct.{ok_same}
use Rattle.syntax_tree.specs.Macros.{identifiers}
use Rattle.rules_build.specs.Builds.{instance}
use Rattle.unit_scopes.specs.Searched.{searched}
use Rattle.unit_scopes.specs.Stepped.{used}
use Rattle.unit_scopes.specs.Used.{match_of_use}

abbrev IsSmall : Tree Identifier → Type 0
IsSmall t = tree_size t ≤ 4194304

abbrev outcome : Bool → Bool → Bool → Built (Tree Identifier) → Result (Built (Tree Identifier)) (Fault Identifier)
outcome a d f b = cond (a && d) (cond f (Ok b) (Err DepthBudget)) (Err NodeBudget)

within_by : (a d f : Bool) (b c : Built (Tree Identifier)) → outcome a d f b ≡ Ok c → (d ≡ true) × (b ≡ c)
within_by true true true b c h = (refl, ok_same (Fault Identifier) b c h)
within_by true true false b c h = absurd cc
within_by true false f b c h = absurd cc
within_by false d f b c h = absurd cc

small_within : (left : ℕ) (b c : Built (Tree Identifier)) → within {A = Identifier} left b ≡ Ok c → IsSmall c.value
small_within left b c h =
    let k = within_by (nat_le b.count left) (nat_le (tree_size b.value) 4194304) (nat_le (tree_depth b.value) 1000) b c h in
    let fits : nat_le (tree_size b.value) 4194304 ≡ true = k.0 in
    let small : tree_size b.value ≤ 4194304 = grind (arith, nat_tests) in
    subst (λ (x : Built (Tree Identifier)). IsSmall x.value) k.1 small

small_build : (o : Option (Built (Tree Identifier))) (left : ℕ) (c : Built (Tree Identifier)) → (or_lengths {A = Identifier} o >> within left) ≡ Ok c → IsSmall c.value
small_build None left c h = absurd cc
small_build (Some b) left c h = small_within left b c h

small_instance : (r : Rules Identifier) (k : Number) (m : Chosen Identifier Identifier) (left : ℕ) (c : Built (Tree Identifier)) → instance r k m left ≡ Ok c → IsSmall c.value
small_instance r k m left c h = small_build (build_tree (record { same = same_ident; insert = λ i. Inserted i k }) (dots_of identifiers r) m.rule.template m.match.bindings) left c h

given_ok : (here : Option Occ) (r : Result (Built (Tree Identifier)) (Fault Identifier)) (w : WaitingUse Identifier) (next : Built (Tree Identifier) → ScopedState → ScopedState) (s : ScopedState) (i : Instance Identifier) →
    (given (λ (i : Identifier). i) here r s >>= λ b u. done (record { tree = b.value; met = w }) (next b u)).0 ≡ Ok i → (b : Built (Tree Identifier)) × (r ≡ Ok b) × (b.value ≡ i.tree)
given_ok here (Ok b) w next s i h = (b, refl, ap (λ (x : Instance Identifier). x.tree) (ok_same Broken (record { tree = b.value; met = w }) i h))
given_ok here (Err e) w next s i h = absurd cc

module _ (known : Known) (here : Option Occ) (fs : Frames) (keyword : Target) (m : Transformer Frames Identifier) (ts : Trees Identifier) (tail : Tail Identifier) (s : ScopedState) (i : Instance Identifier) where
  abbrev matched_step : Option (Chosen Identifier Identifier) → Result (Instance Identifier) Broken × ScopedState
  matched_step o = order.used (searched known) here keyword m (next_number s s.uses) o (used m.env s)

  small_matched : (o : Option (Chosen Identifier Identifier)) → (matched_step o).0 ≡ Ok i → IsSmall i.tree
  small_matched None h = absurd cc
  small_matched (Some c) h =
      let g = given_ok here (instance m.rules (next_number s s.uses) c (200000 - s.nodes s.form)) _ _ (used m.env s) i h in
      subst IsSmall g.2 (small_instance m.rules (next_number s s.uses) c (200000 - s.nodes s.form) g.0 g.1)

  small_by : (b : Bool) → (cond b (matched_step (match_of_use s fs m ts tail)) (Err (record { fault = UseBudget; here = here }), s)).0 ≡ Ok i → IsSmall i.tree
  small_by true h = small_matched (match_of_use s fs m ts tail) h
  small_by false h = absurd cc

  pub use_small : (use_of (searched known) here fs keyword m ts tail s).0 ≡ Ok i → tree_size i.tree ≤ 4194304
  use_small h = small_by (nat_lt (s.uses s.form) 10000) h
