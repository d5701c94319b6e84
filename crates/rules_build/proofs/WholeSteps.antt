-- The plan of a whole template, and the instance that is built of it.
use Rattle.std.proofs.Common.{◌≡◌, ℕ, zero, suc, ◌<◌, ◌≤◌, List, [], ◌∷◌, length, get_or, Bool, true, false, Option, Some, None, refl, sym, ap, ◌∙◌, subst, arith}
use Rattle.std.specs.Prelude.{nat_le, is_some, IsSome, slice_get, Ok, Err}
use Rattle.std.proofs.lemmas.Bool.Decides.{nat_tests}
use Rattle.std.proofs.lemmas.Option.{same_Some}
use Rattle.ls_base.specs.Limits.{max_tree_nodes, max_tree_depth}
use Rattle.scheme_model.specs.Identifiers.{Number}
use Rattle.scheme_model.specs.Trees.{Tree}
use Rattle.scheme_model.specs.Measures.{tree_size, tree_depth}
use Rattle.scheme_model.specs.RulesShape.{Rule, Rules}
use Rattle.scheme_model.specs.Matching.{Binding, Chosen}
use Rattle.scheme_model.specs.Building.{Built, max_nodes, max_depth}
use Rattle.scheme_model.specs.Ident.{Ident as Identifier}
use Rattle.syntax_tree.specs.Names.{Names}
use Rattle.syntax_tree.specs.Works.{StandsFor}
use Rattle.syntax_tree.specs.Macros.{AreIdents, IsEllipsisOf, AreRolesOf, TellsRoles, AreBindings, AreRules}
use Rattle.syntax_tree.specs.declared.trees.Work.{Work}
use Rattle.syntax_tree.specs.declared.trees.table.Region.{Region}
use Rattle.syntax_tree.specs.declared.rules.Roles.{Roles}
use Rattle.syntax_tree.specs.declared.rules.Rules as code_rules
use Rattle.syntax_tree.specs.declared.rules.Rule as code_rule
use Rattle.syntax_tree.specs.declared.rules.Binding as code_binding
use Rattle.rules_build.specs.declared.fault.BuildFault.TheVariants as fault
use Rattle.rules_build.specs.declared.plan.Plan.{Plan}
use Rattle.syntax_tree.specs.Bound.{MayNameBindings}
use Rattle.rules_build.specs.Values.{AreManyBound}
use Rattle.rules_build.specs.Drafts.{spent, Draft, tree_of, IsDraft, CanStand}
use Rattle.rules_build.specs.Builds.{instance, Plans, IsPlanned}
use Rattle.rules_build.proofs.WholeLaws.{spent_some, spent_gone, walked, too_many, too_large, too_deep, all_within}

-- ---- what the walk is given

pub tells : (names : Names) (roles : Roles) (rules : code_rules.Rules) (r : Rules Identifier) (own : Option ℕ) (ns : List ℕ) → own ≡ rules.ellipsis → ns ≡ rules.literals → AreRolesOf roles own ns → IsEllipsisOf names rules.ellipsis r.ellipsis →
    AreIdents names rules.literals r.literals → TellsRoles names roles r
tells names roles rules r own ns e f h is are = record { numbers = ns; has = h.has; literals = subst (λ (xs : List ℕ). AreIdents names xs r.literals) (sym f) are; ellipsis = subst (λ (o : Option ℕ). IsEllipsisOf names o r.ellipsis) (sym (h.own ∙ e)) is }

pub all_many_bound : (work : Work) (region : Region) (bs : List code_binding.Binding) (ms : List (Binding Identifier Identifier)) → AreBindings work bs ms → MayNameBindings work region bs ms → AreManyBound work region bs ms
all_many_bound work region [] [] h g = tt
all_many_bound work region [] (m ∷ ms) h g = absurd h
all_many_bound work region (b ∷ bs) [] h g = absurd h
all_many_bound work region (b ∷ bs) (m ∷ ms) h g = ((h.0.0, h.0.1, (h.0.2, g.0)), all_many_bound work region bs ms h.1 g.1)

-- the template of the rule at a place
pub template_there : (work : Work) (ns : List code_rule.Rule) (rs : List (Rule Identifier)) (k : ℕ) (d : code_rule.Rule) (r : Rule Identifier) → AreRules work ns rs → slice_get rs k ≡ Some r → (k < length ns) × StandsFor work (get_or ns k d).template r.template
template_there work [] [] zero d r h e = absurd cc
template_there work [] [] (suc k) d r h e = absurd cc
template_there work [] (q ∷ rs) k d r h e = absurd h
template_there work (n ∷ ns) [] k d r h e = absurd h
template_there work (n ∷ ns) (q ∷ rs) zero d r h e = (omega arith, subst (λ (x : Rule Identifier). StandsFor work n.template x.template) (same_Some q r e) h.0.template)
template_there work (n ∷ ns) (q ∷ rs) (suc k) d r h e = let p = template_there work ns rs k d r h.1 e in (omega (arith, p.0), p.1)

-- ---- whether anything is left

pub none_is : (o : Option ℕ) → ((n : ℕ) → o ≡ Some n → ⊥) → o ≡ None
none_is None h = refl
none_is (Some n) h = absurd (h n refl)

pub gone_is : (o : Option ℕ) → is_some o ≡ false → o ≡ None
gone_is None h = refl
gone_is (Some n) h = absurd cc

-- ---- how planning ends

module _ (work : Work) (region : Region) (r : Rules Identifier) (k : Number) (m : Chosen Identifier Identifier) (left : ℕ) where
  -- the plan stands for something to be built
  pub plan_stands : (new : Option ℕ) (p : Plan) → Plans work region k (Some left) new (walked r k m left) (Ok p) → IsSome new → CanStand work p
  plan_stands new p h s = let q = h.3 s in (region, q.0, q.1)

  pub planned_many : (new : Option ℕ) (p : Plan) → Plans work region k (Some left) new (walked r k m left) (Ok p) → new ≡ None → IsPlanned work region k left (instance r k m left) (Err fault.NodeBudget)
  planned_many new p h e = too_many r k m left h.0 h.1 (spent_gone left h.0.count (sym e ∙ h.2))

  pub planned_large : (new : Option ℕ) (rest : ℕ) (p : Plan) (nodes : Option ℕ) → Plans work region k (Some left) new (walked r k m left) (Ok p) → new ≡ Some rest → nodes ≡ None →
      ((d : Draft) → IsDraft work region p d → nodes ≡ spent (Some max_nodes) (tree_size (tree_of k d))) → IsPlanned work region k left (instance r k m left) (Err fault.NodeBudget)
  planned_large new rest p nodes h e none sizes =
      let q = h.3 (ap is_some e) in
      let fits = spent_some left h.0.count rest (sym e ∙ h.2) in
      let gone : nat_le (tree_size (tree_of k q.0)) max_nodes ≡ false = spent_gone max_nodes (tree_size (tree_of k q.0)) (sym none ∙ sizes q.0 q.1) in
      too_large r k m left h.0 h.1 fits.0 (sym (ap (λ (t : Tree Identifier). nat_le (tree_size t) max_nodes) q.2) ∙ gone)

  -- a tree that is not too large
  size_fits : (b : Built (Tree Identifier)) (d : Draft) (nodes : Option ℕ) (o : Option ℕ) → nodes ≡ o → IsSome nodes → nodes ≡ spent (Some max_nodes) (tree_size (tree_of k d)) → tree_of k d ≡ b.value → nat_le (tree_size b.value) max_nodes ≡ true
  size_fits b d nodes None is some e same = let clash : false ≡ true = sym (ap is_some is) ∙ some in absurd cc
  size_fits b d nodes (Some n) is some e same = sym (ap (λ (t : Tree Identifier). nat_le (tree_size t) max_nodes) same) ∙ (spent_some max_nodes (tree_size (tree_of k d)) n (sym is ∙ e)).0

  pub planned_deep : (new : Option ℕ) (rest : ℕ) (p : Plan) (nodes : Option ℕ) (fits : Bool) → Plans work region k (Some left) new (walked r k m left) (Ok p) → new ≡ Some rest → IsSome nodes → fits ≡ false →
      ((d : Draft) → IsDraft work region p d → nodes ≡ spent (Some max_nodes) (tree_size (tree_of k d))) → ((d : Draft) → IsDraft work region p d → fits ≡ nat_le (tree_depth (tree_of k d)) max_depth) →
      IsPlanned work region k left (instance r k m left) (Err fault.DepthBudget)
  planned_deep new rest p nodes fits h e some not_so sizes depths =
      let q = h.3 (ap is_some e) in
      let enough = spent_some left h.0.count rest (sym e ∙ h.2) in
      too_deep r k m left h.0 h.1 enough.0 (size_fits h.0 q.0 nodes nodes refl some (sizes q.0 q.1) q.2) (sym (ap (λ (t : Tree Identifier). nat_le (tree_depth t) max_depth) q.2) ∙ sym (depths q.0 q.1) ∙ not_so)

  pub planned_all : (new : Option ℕ) (rest : ℕ) (p : Plan) (nodes : Option ℕ) (fits : Bool) → Plans work region k (Some left) new (walked r k m left) (Ok p) → new ≡ Some rest → IsSome nodes → fits ≡ true →
      ((d : Draft) → IsDraft work region p d → nodes ≡ spent (Some max_nodes) (tree_size (tree_of k d))) → ((d : Draft) → IsDraft work region p d → fits ≡ nat_le (tree_depth (tree_of k d)) max_depth) →
      IsPlanned work region k left (instance r k m left) (Ok (p, rest))
  planned_all new rest p nodes fits h e some so sizes depths =
      let q = h.3 (ap is_some e) in
      let enough = spent_some left h.0.count rest (sym e ∙ h.2) in
      let size = size_fits h.0 q.0 nodes nodes refl some (sizes q.0 q.1) q.2 in
      let deep : nat_le (tree_depth h.0.value) max_depth ≡ true = sym (ap (λ (t : Tree Identifier). nat_le (tree_depth t) max_depth) q.2) ∙ sym (depths q.0 q.1) ∙ so in
      let small : tree_size h.0.value ≤ max_tree_nodes = grind (arith, nat_tests) in
      let flat : tree_depth h.0.value ≤ max_tree_depth = grind (arith, nat_tests) in
      (h.0, all_within r k m left h.0 h.1 enough.0 size deep, q, (small, flat), enough.1)
