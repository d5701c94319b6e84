-- How building ends, by what its plan says and what adding the plan's nodes leaves.
use Rattle.std.proofs.Common.{◌≡◌, ℕ, ◌+◌, ◌^◌, ◌<◌, ◌≤◌, refl, sym, ◌∙◌, subst, arith}
use Rattle.std.specs.Prelude.{Result, Ok, Err, IsErrAnd}
use Rattle.ls_base.specs.Limits.{max_tree_nodes, max_tree_depth}
use Rattle.scheme_model.specs.Identifiers.{Number}
use Rattle.scheme_model.specs.Trees.{Tree}
use Rattle.scheme_model.specs.Measures.{tree_size, tree_depth}
use Rattle.scheme_model.specs.ExpansionFaults.{Fault}
use Rattle.scheme_model.specs.Building.{Built}
use Rattle.scheme_model.specs.Ident.{Ident as Identifier}
use Rattle.syntax_tree.specs.Works.{StandsFor, live_count}
use Rattle.syntax_tree.specs.declared.trees.Work.{Work}
use Rattle.syntax_tree.specs.declared.trees.table.Region.{Region}
use Rattle.syntax_tree.specs.declared.trees.nodes.Tree as number
use Rattle.rules_build.specs.declared.fault.BuildFault.{BuildFault}
use Rattle.rules_build.specs.declared.fault.BuildFault.TheVariants as fault
use Rattle.rules_build.specs.declared.plan.Plan.{Plan}
use Rattle.rules_build.specs.Drafts.{tree_of, makes}
use Rattle.rules_build.specs.Builds.{Builds, CountsNodes, IsPlanned}
use Rattle.rules_build.specs.Adds.{Grows, Lacks, CanBeAdded}

abbrev Ending : Type 0
Ending = Result (Built (Tree Identifier)) (Fault Identifier)

module _ (old : Work) (region : Region) (k : Number) (left : ℕ) (s : Ending) where
  -- ---- no plan

  fault_builds : (f : BuildFault) → IsPlanned old region k left s (Err f) → Builds old left left s (Err f)
  fault_builds fault.EllipsisLength h = (h, refl)
  fault_builds fault.NodeBudget h = (h, refl)
  fault_builds fault.DepthBudget h = (h, refl)
  fault_builds fault.Full h = absurd h
  fault_builds fault.Memory h = refl

  pub no_plan : (r : Result number.Tree BuildFault) (e : BuildFault) → IsErrAnd r (λ f. f ≡ e) → IsPlanned old region k left s (Err e) → Builds old left left s r
  no_plan (Ok n) e h g = absurd h
  no_plan (Err f) e h g = fault_builds f (subst (λ (x : BuildFault). IsPlanned old region k left s (Err x)) (sym h) g)

  fault_counts : (f : BuildFault) → IsPlanned old region k left s (Err f) → CountsNodes old old left s (Err f)
  fault_counts fault.EllipsisLength h = refl
  fault_counts fault.NodeBudget h = refl
  fault_counts fault.DepthBudget h = refl
  fault_counts fault.Full h = absurd h
  fault_counts fault.Memory h = omega arith

  pub no_nodes : (r : Result number.Tree BuildFault) (e : BuildFault) → IsErrAnd r (λ f. f ≡ e) → IsPlanned old region k left s (Err e) → CountsNodes old old left s r
  no_nodes (Ok n) e h g = absurd h
  no_nodes (Err f) e h g = fault_counts f (subst (λ (x : BuildFault). IsPlanned old region k left s (Err x)) (sym h) g)

  -- a plan is there wherever there is no room
  pub not_full : (r : Result number.Tree BuildFault) (e : BuildFault) → IsErrAnd r (λ f. f ≡ e) → IsPlanned old region k left s (Err e) → r ≡ Err fault.Full → 2 ^ 31 < live_count old + left
  not_full (Ok n) e h g is = absurd h
  not_full (Err f) e h g is =
      let same : f ≡ fault.Full = cc in
      absurd (subst (λ (x : BuildFault). IsPlanned old region k left s (Err x)) (sym h ∙ same) g)

  -- ---- a plan

  module _ (p : Plan × ℕ) (plan : IsPlanned old region k left s (Ok p)) where
    pub can_add : CanBeAdded old region k p.0
    can_add = (plan.2.0, plan.2.1, subst (λ (t : Tree Identifier). tree_size t ≤ max_tree_nodes) (sym plan.2.2) plan.3.0, subst (λ (t : Tree Identifier). tree_depth t ≤ max_tree_depth) (sym plan.2.2) plan.3.1)

    -- it makes no more nodes than are left
    makes_left : makes plan.2.0 ≤ left
    makes_left = let a = plan.2.3 in let b = plan.4 in omega (arith, a, b)

    module _ (new : Work) where
      fault_leaves : (f : BuildFault) → Lacks old (makes plan.2.0) f → Builds new left left s (Err f)
      fault_leaves fault.EllipsisLength h = absurd h
      fault_leaves fault.NodeBudget h = absurd h
      fault_leaves fault.DepthBudget h = absurd h
      fault_leaves fault.Full h = refl
      fault_leaves fault.Memory h = refl

      pub none_taken : (r : Result number.Tree BuildFault) (e : BuildFault) → IsErrAnd r (λ f. f ≡ e) → Lacks old (makes plan.2.0) e → Builds new left left s r
      none_taken (Ok n) e h g = absurd h
      none_taken (Err f) e h g = fault_leaves f (subst (Lacks old (makes plan.2.0)) (sym h) g)

      fault_nodes : (f : BuildFault) → Lacks old (makes plan.2.0) f → live_count new ≤ live_count old + left → CountsNodes old new left s (Err f)
      fault_nodes fault.EllipsisLength h l = absurd h
      fault_nodes fault.NodeBudget h l = absurd h
      fault_nodes fault.DepthBudget h l = absurd h
      fault_nodes fault.Full h l = l
      fault_nodes fault.Memory h l = l

      pub some_nodes : (r : Result number.Tree BuildFault) (e : BuildFault) → IsErrAnd r (λ f. f ≡ e) → Grows old new region k (makes plan.2.0) → Lacks old (makes plan.2.0) e → CountsNodes old new left s r
      some_nodes (Ok n) e h grows g = absurd h
      some_nodes (Err f) e h grows g =
          let most = makes_left in
          let more = grows.nodes in
          fault_nodes f (subst (Lacks old (makes plan.2.0)) (sym h) g) (omega (arith, most, more))

      pub built_there : (n : number.Tree) → StandsFor new n (tree_of k plan.2.0) → Builds new left p.1 s (Ok n)
      built_there n h = (plan.0, plan.1, subst (StandsFor new n) plan.2.2 h, plan.4)

      pub built_nodes : (n : number.Tree) → Grows old new region k (makes plan.2.0) → CountsNodes old new left s (Ok n)
      built_nodes n grows =
          let most = plan.2.3 in
          let more = grows.nodes in
          (plan.0, plan.1, omega (arith, most, more))

    pub full_there : (r : Result number.Tree BuildFault) (e : BuildFault) → IsErrAnd r (λ f. f ≡ e) → Lacks old (makes plan.2.0) e → r ≡ Err fault.Full → 2 ^ 31 < live_count old + left
    full_there (Ok n) e h g is = absurd h
    full_there (Err f) e h g is =
        let same : f ≡ fault.Full = cc in
        let lacks = subst (Lacks old (makes plan.2.0)) (sym h ∙ same) g in
        let most = makes_left in
        omega (arith, lacks, most)
