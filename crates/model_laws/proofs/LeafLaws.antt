-- The leaves of rules that mean something where their macro is defined, once each identifier is renamed.
use Rattle.std.proofs.Common.{◌≡◌, List, [], ◌∷◌, ◌++◌, map, Bool, true, false, refl, ap, ◌∙◌}
use Rattle.std.specs.Prelude.{◌||◌}
use Rattle.scheme_model.specs.Trees.{Tree, name, atom, list, vector, Trees, no_trees, tree, Tail, proper, dotted, map_tree, map_trees, map_tail}
use Rattle.scheme_model.specs.ExpansionFaults.{Named, named, named_map}
use Rattle.scheme_model.specs.Shapes.{is_among}
use Rattle.scheme_model.specs.RulesShape.{Rule, Rules, rule_map, rules_map, Names, Role, IsLiteral, IsEllipsis, IsAny, IsVariable, role_of, dots_of, nowhere, Variable, pattern_variables}
use Rattle.scheme_model.specs.Building.{is_escape}
use Rattle.scheme_model.specs.Leaves.{Leaf, literal_at, pattern_leaves, leaves_among, leaves_behind, unless, if_escape, template_leaves, template_among, template_behind, behind_dots, rule_leaves, all_rule_leaves, leaves_of}
use Rattle.scheme_model.specs.Renaming.{Renames, leaf_map}
use Rattle.scheme_model.proofs.RenamingLaws.{append_map, map_turned}
use Rattle.scheme_model.proofs.ShapeLaws.{is_among-map}
use Rattle.scheme_model.proofs.PatternLaws.{variable_map}
use Rattle.scheme_model.proofs.RulesLaws.{role_of-map, dots_of-map, pattern_variables-map}
use Rattle.scheme_model.proofs.BuildLaws.{is_escape-map}

if_escape_map : {X Y : Type 0} (h : X → Y) (b : Bool) (xs ys : List X) {b' : Bool} {xs' ys' : List Y} → b' ≡ b → xs' ≡ map h xs → ys' ≡ map h ys → if_escape b' xs' ys' ≡ map h (if_escape b xs ys)
if_escape_map {X} {Y} h b xs ys {b'} {xs'} {ys'} e ex ey = (λ j. if_escape (e j) (ex j) (ey j)) ∙ go b
  where
    go : (t : Bool) → if_escape t (map h xs) (map h ys) ≡ map h (if_escape t xs ys)
    go true = refl
    go false = refl

module _ (A B : Type 0) (f : A → B) where
  abbrev leaves : List (Leaf A) → List (Leaf B)
  leaves ls = map (leaf_map f) ls

  literal_at-map : (r : Role) (n : Named A) → literal_at r (named_map f n) ≡ leaves (literal_at r n)
  literal_at-map IsLiteral n = refl
  literal_at-map IsEllipsis n = refl
  literal_at-map IsAny n = refl
  literal_at-map IsVariable n = refl

  unless-map : (b : Bool) (n : Named A) → unless b (named_map f n) ≡ leaves (unless b n)
  unless-map true n = refl
  unless-map false n = refl

  -- ---- patterns

  module _ (role : A → Role) (role' : B → Role) (same_role : (i : A) → role' (f i) ≡ role i) where
    mutual
      pattern_leaves-map : (t : Tree A) → pattern_leaves role' (map_tree f t) ≡ leaves (pattern_leaves role t)
      pattern_leaves-map (name i o) = ap (λ r. literal_at r (named (f i) o)) (same_role i) ∙ literal_at-map (role i) (named i o)
      pattern_leaves-map (atom a o) = refl
      pattern_leaves-map (list ts tail o) = append_map (leaf_map f) (leaves_among role ts) (leaves_behind role tail) (leaves_among-map ts) (leaves_behind-map tail)
      pattern_leaves-map (vector ts o) = leaves_among-map ts

      leaves_among-map : (ts : Trees A) → leaves_among role' (map_trees f ts) ≡ leaves (leaves_among role ts)
      leaves_among-map no_trees = refl
      leaves_among-map (tree t ts) = append_map (leaf_map f) (pattern_leaves role t) (leaves_among role ts) (pattern_leaves-map t) (leaves_among-map ts)

      leaves_behind-map : (tail : Tail A) → leaves_behind role' (map_tail f tail) ≡ leaves (leaves_behind role tail)
      leaves_behind-map proper = refl
      leaves_behind-map (dotted t) = pattern_leaves-map t

  -- ---- templates

  module _ (variable : A → Bool) (variable' : B → Bool) (same_variable : (i : A) → variable' (f i) ≡ variable i) where
    mutual
      template_leaves-map : (dots : A → Bool) (dots' : B → Bool) → ((i : A) → dots' (f i) ≡ dots i) → (t : Tree A) → template_leaves dots' variable' (map_tree f t) ≡ leaves (template_leaves dots variable t)
      template_leaves-map dots dots' h (name i o) = let a = h i in let b = same_variable i in (λ j. unless (a j || b j) (named (f i) o)) ∙ unless-map (dots i || variable i) (named i o)
      template_leaves-map dots dots' h (atom a o) = refl
      template_leaves-map dots dots' h (list ts tail o) =
          if_escape_map (leaf_map f) (is_escape dots ts tail) (behind_dots variable ts) (template_among dots variable ts ++ template_behind dots variable tail)
          (is_escape-map A B f dots dots' h ts tail) (behind_dots-map ts)
          (append_map (leaf_map f) (template_among dots variable ts) (template_behind dots variable tail) (template_among-map dots dots' h ts) (template_behind-map dots dots' h tail))
      template_leaves-map dots dots' h (vector ts o) = template_among-map dots dots' h ts

      template_among-map : (dots : A → Bool) (dots' : B → Bool) → ((i : A) → dots' (f i) ≡ dots i) → (ts : Trees A) → template_among dots' variable' (map_trees f ts) ≡ leaves (template_among dots variable ts)
      template_among-map dots dots' h no_trees = refl
      template_among-map dots dots' h (tree t ts) = append_map (leaf_map f) (template_leaves dots variable t) (template_among dots variable ts) (template_leaves-map dots dots' h t) (template_among-map dots dots' h ts)

      template_behind-map : (dots : A → Bool) (dots' : B → Bool) → ((i : A) → dots' (f i) ≡ dots i) → (tail : Tail A) → template_behind dots' variable' (map_tail f tail) ≡ leaves (template_behind dots variable tail)
      template_behind-map dots dots' h proper = refl
      template_behind-map dots dots' h (dotted t) = template_leaves-map dots dots' h t

      behind_dots-map : (ts : Trees A) → behind_dots variable' (map_trees f ts) ≡ leaves (behind_dots variable ts)
      behind_dots-map no_trees = refl
      behind_dots-map (tree t no_trees) = refl
      behind_dots-map (tree t (tree u us)) = template_leaves-map nowhere nowhere (λ i. refl) u

-- ---- rules

module _ (A B : Type 0) (f : A → B) (n : Names A) (m : Names B) (told : Renames f n m) where
  -- an identifier is a variable of a rule
  abbrev variables : {X : Type 0} → Names X → List (Variable X) → X → Bool
  variables k vs i = is_among k.same i (map (λ v. v.variable) vs)

  variables-map : (vs : List (Variable A)) (i : A) → variables m (map (variable_map A B f) vs) (f i) ≡ variables n vs i
  variables-map vs i =
      ap (is_among m.same (f i)) (map_turned (λ (v : Variable B). v.variable) (variable_map A B f) (named_map f) (λ (v : Variable A). v.variable) (λ v. refl) vs)
      ∙ is_among-map A B f n.same m.same told.same i (map (λ (v : Variable A). v.variable) vs)

  is_variable : (r : Rules A) (rule : Rule A) (i : A) → variables m (pattern_variables m (rules_map f r) (rule_map f rule)) (f i) ≡ variables n (pattern_variables n r rule) i
  is_variable r rule i = ap (λ (vs : List (Variable B)). variables m vs (f i)) (pattern_variables-map A B f n m told r rule) ∙ variables-map (pattern_variables n r rule) i

  rule_leaves-map : (r : Rules A) (rule : Rule A) → rule_leaves m (rules_map f r) (rule_map f rule) ≡ map (leaf_map f) (rule_leaves n r rule)
  rule_leaves-map r rule =
      append_map (leaf_map f) (leaves_among (role_of n r) rule.parts ++ leaves_behind (role_of n r) rule.tail) (template_leaves (dots_of n r) (variables n (pattern_variables n r rule)) rule.template)
      (append_map (leaf_map f) (leaves_among (role_of n r) rule.parts) (leaves_behind (role_of n r) rule.tail)
      (leaves_among-map A B f (role_of n r) (role_of m (rules_map f r)) (role_of-map A B f n m told r) rule.parts)
      (leaves_behind-map A B f (role_of n r) (role_of m (rules_map f r)) (role_of-map A B f n m told r) rule.tail))
      (template_leaves-map A B f (variables n (pattern_variables n r rule)) (variables m (pattern_variables m (rules_map f r) (rule_map f rule))) (is_variable r rule)
      (dots_of n r) (dots_of m (rules_map f r)) (dots_of-map A B f n m told r) rule.template)

  all_rule_leaves-map : (r : Rules A) (rs : List (Rule A)) → all_rule_leaves m (rules_map f r) (map (rule_map f) rs) ≡ map (leaf_map f) (all_rule_leaves n r rs)
  all_rule_leaves-map r [] = refl
  all_rule_leaves-map r (rule ∷ rs) = append_map (leaf_map f) (rule_leaves n r rule) (all_rule_leaves n r rs) (rule_leaves-map r rule) (all_rule_leaves-map r rs)

  pub leaves_of-map : (r : Rules A) → leaves_of m (rules_map f r) ≡ map (leaf_map f) (leaves_of n r)
  leaves_of-map r =
      append_map (leaf_map f) (map (λ (l : Named A). record { leaf = l; literal = true }) r.literals) (all_rule_leaves n r r.rules)
      (map_turned (λ (l : Named B). record { leaf = l; literal = true }) (named_map f) (leaf_map f) (λ (l : Named A). record { leaf = l; literal = true }) (λ l. refl) r.literals)
      (all_rule_leaves-map r r.rules)
