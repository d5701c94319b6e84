-- How building of a whole template ends, by what its walk and its measures say.
use Rattle.std.proofs.Common.{◌≡◌, ℕ, ◌+◌, ◌-◌, ◌≤◌, Bool, true, false, ◌&&◌, Option, Some, None, refl, sym, ap, ◌∙◌, subst, arith}
use Rattle.std.specs.Prelude.{nat_le, if◌then◌else◌, Result, Ok, Err, IsErrAnd}
use Rattle.std.proofs.lemmas.Bool.Decides.{nat_tests}
use Rattle.std.proofs.lemmas.Option.{same_Some}
use Rattle.scheme_model.specs.Identifiers.{Number}
use Rattle.scheme_model.specs.Trees.{Tree}
use Rattle.scheme_model.specs.Measures.{tree_size, tree_depth}
use Rattle.scheme_model.specs.ExpansionFaults.{Fault, EllipsisLength, NodeBudget, DepthBudget, ◌>>◌}
use Rattle.scheme_model.specs.RulesShape.{Rules}
use Rattle.scheme_model.specs.Matching.{Chosen}
use Rattle.scheme_model.specs.Building.{Built, build_tree, within, or_lengths, max_nodes, max_depth}
use Rattle.scheme_model.specs.Ident.{Ident as Identifier}
use Rattle.syntax_tree.specs.declared.trees.Work.{Work}
use Rattle.syntax_tree.specs.declared.trees.table.Region.{Region}
use Rattle.rules_build.specs.declared.fault.BuildFault.{BuildFault}
use Rattle.rules_build.specs.declared.fault.BuildFault.TheVariants as fault
use Rattle.rules_build.specs.declared.plan.Plan.{Plan}
use Rattle.rules_build.specs.Drafts.{spent}
use Rattle.rules_build.specs.Builds.{inserting, dots_where, instance, Fails, IsPlanned}

pub spent_some : (left n rest : ℕ) → Some rest ≡ spent (Some left) n → (nat_le n left ≡ true) × (rest + n ≡ left)
spent_some left n rest e = by (nat_le n left) refl
  where
    by : (b : Bool) → nat_le n left ≡ b → (nat_le n left ≡ true) × (rest + n ≡ left)
    by true h =
        let is : rest ≡ left - n = same_Some rest (left - n) (e ∙ ap (λ (x : Bool). if x then Some (left - n) else None) h) in
        let fits : n ≤ left = grind (arith, nat_tests) in
        (h, omega arith)
    by false h = let no : Some rest ≡ None = e ∙ ap (λ (x : Bool). if x then Some (left - n) else None) h in absurd cc

pub spent_gone : (left n : ℕ) → None ≡ spent (Some left) n → nat_le n left ≡ false
spent_gone left n e = by (nat_le n left) refl
  where
    by : (b : Bool) → nat_le n left ≡ b → nat_le n left ≡ false
    by true h = let no : None ≡ Some (left - n) = e ∙ ap (λ (x : Bool). if x then Some (left - n) else None) h in absurd cc
    by false h = h

module _ (r : Rules Identifier) (k : Number) (m : Chosen Identifier Identifier) (left : ℕ) where
  abbrev pub walked : Option (Built (Tree Identifier))
  walked = build_tree (inserting k) (dots_where false r) m.rule.template m.match.bindings

  abbrev ended : Option (Built (Tree Identifier)) → Result (Built (Tree Identifier)) (Fault Identifier)
  ended s = or_lengths s >> within left

  abbrev tested : Built (Tree Identifier) → Bool → Bool → Bool → Result (Built (Tree Identifier)) (Fault Identifier)
  tested b x y z = if x && y then (if z then Ok b else Err DepthBudget) else Err NodeBudget

  pub lengths_differ : walked ≡ None → instance r k m left ≡ Err EllipsisLength
  lengths_differ e = ap ended e

  by_tests : (b : Built (Tree Identifier)) (x y z : Bool) → walked ≡ Some b → nat_le b.count left ≡ x → nat_le (tree_size b.value) max_nodes ≡ y → nat_le (tree_depth b.value) max_depth ≡ z → instance r k m left ≡ tested b x y z
  by_tests b x y z e f g h = ap ended e ∙ (λ j. tested b (f j) (g j) (h j))

  pub too_many : (b : Built (Tree Identifier)) → walked ≡ Some b → nat_le b.count left ≡ false → instance r k m left ≡ Err NodeBudget
  too_many b e f = by_tests b false (nat_le (tree_size b.value) max_nodes) (nat_le (tree_depth b.value) max_depth) e f refl refl

  pub too_large : (b : Built (Tree Identifier)) → walked ≡ Some b → nat_le b.count left ≡ true → nat_le (tree_size b.value) max_nodes ≡ false → instance r k m left ≡ Err NodeBudget
  too_large b e f g = by_tests b true false (nat_le (tree_depth b.value) max_depth) e f g refl

  pub too_deep : (b : Built (Tree Identifier)) → walked ≡ Some b → nat_le b.count left ≡ true → nat_le (tree_size b.value) max_nodes ≡ true → nat_le (tree_depth b.value) max_depth ≡ false → instance r k m left ≡ Err DepthBudget
  too_deep b e f g h = by_tests b true true false e f g h

  pub all_within : (b : Built (Tree Identifier)) → walked ≡ Some b → nat_le b.count left ≡ true → nat_le (tree_size b.value) max_nodes ≡ true → nat_le (tree_depth b.value) max_depth ≡ true → instance r k m left ≡ Ok b
  all_within b e f g h = by_tests b true true true e f g h

-- a fault of the walk is that of the whole
pub walk_fails : (work : Work) (region : Region) (r : Rules Identifier) (k : Number) (m : Chosen Identifier Identifier) (left : ℕ) (result : Result (Plan × ℕ) BuildFault) (e : BuildFault) → IsErrAnd result (λ f. f ≡ e) →
    Fails (build_tree (inserting k) (dots_where false r) m.rule.template m.match.bindings) e → IsPlanned work region k left (instance r k m left) result
walk_fails work region r k m left (Ok p) e h g = absurd h
walk_fails work region r k m left (Err f) e h g = of f (subst (λ (x : BuildFault). Fails (build_tree (inserting k) (dots_where false r) m.rule.template m.match.bindings) x) (sym h) g)
  where
    of : (f : BuildFault) → Fails (build_tree (inserting k) (dots_where false r) m.rule.template m.match.bindings) f → IsPlanned work region k left (instance r k m left) (Err f)
    of fault.EllipsisLength g = lengths_differ r k m left g
    of fault.NodeBudget g = absurd g
    of fault.DepthBudget g = absurd g
    of fault.Full g = g
    of fault.Memory g = tt
