-- The rules of a macro are read and an instance is built within the turns, and an instance has so many nodes at most.
use Rattle.std.proofs.Common.{◌≡◌, ℕ, ◌+◌, ◌≤◌, List, [], ◌∷◌, Bool, true, false, Option, Some, None, Result, Ok, Err, refl, arith, if◌then◌else◌}
use Rattle.std.specs.Prelude.{nat_le, ◌&&◌, ◌||◌}
use Rattle.std.proofs.lemmas.Bool.Decides.{nat_tests}
use Rattle.scheme_model.specs.declared.Occ.{Occ}
use Rattle.scheme_model.specs.Trees.{Tree, name, atom, list, vector, Trees, no_trees, tree, Tail, proper, dotted}
use Rattle.scheme_model.specs.Measures.{tree_size, tree_depth}
use Rattle.scheme_model.specs.ExpansionFaults.{named, Named, Fault, BadRules, TwoEllipses, DuplicateVariable, EllipsisDepth, IdleEllipsis, NodeBudget, DepthBudget, ◌>>◌}
use Rattle.scheme_model.specs.Shapes.{is_among, names_of}
use Rattle.scheme_model.specs.RulesShape.{Rule, Rules, Names, dots_of, is_dots, leading, bad_pattern, two_dots, Variable, first_twice, depth_of, escape_of, bad_template, too_shallow, nowhere, deep_in, deep_enough, all_deep, deep_tail, is_idle, pattern_variables, refuse, check_rule, check_rules, bad, rule_in, rule_of, rules_in, rules_behind, rules_parts, rules_of}
use Rattle.scheme_model.specs.Matching.{Binding}
use Rattle.scheme_model.specs.Building.{Built, build_tree, max_nodes, max_depth, within, or_lengths, build}
use Rattle.program_laws.proofs.Faults.{InTurns, Gives, Any, then_gives, either_gives}

-- ---- the rules

module _ {A : Type 0} where
  refuse_any : (b : Bool) (e : Fault A) → InTurns e → Gives Any (refuse b e)
  refuse_any b e h = either_gives Any b (Err e) (Ok tt) h tt

  first_any : (same : A → A → Bool) (seen : List (Named A)) (vs : List (Variable A)) → Gives Any (first_twice same seen vs)
  first_any same seen [] = tt
  first_any same seen (v ∷ vs) = either_gives Any (is_among same v.variable.name seen) (Err (DuplicateVariable v.variable)) (first_twice same (v.variable ∷ seen) vs) tt (first_any same (v.variable ∷ seen) vs)

  shallow_any : (d : Option ℕ) (i : A) (o : Option Occ) (level : ℕ) → Gives Any (too_shallow d i o level)
  shallow_any None i o level = tt
  shallow_any (Some d) i o level = either_gives Any (nat_le d level) (Ok tt) (Err (EllipsisDepth (named i o))) tt tt

  deep_in_any : {V : Type 0} (t : Option (Tree A)) (x y : Result V (Fault A)) → Gives Any x → Gives Any y → Gives Any (deep_in t x y)
  deep_in_any (Some t) x y h k = h
  deep_in_any None x y h k = k

  mutual
    deep_any : (t : Tree A) (dots : A → Bool) (depth : A → Option ℕ) (level : ℕ) → Gives Any (deep_enough dots depth t level)
    deep_any (name i o) dots depth level = shallow_any (depth i) i o level
    deep_any (atom a o) dots depth level = tt
    deep_any (list ts tail o) dots depth level =
        deep_in_any (escape_of dots ts tail) (all_deep nowhere depth ts level) (all_deep dots depth ts level >> λ done. deep_tail dots depth tail level)
        (all_deep_any ts nowhere depth level) (then_gives Any Any (all_deep dots depth ts level) (λ done. deep_tail dots depth tail level) (all_deep_any ts dots depth level) (λ d h. deep_tail_any tail dots depth level))
    deep_any (vector ts o) dots depth level = all_deep_any ts dots depth level

    all_deep_any : (ts : Trees A) (dots : A → Bool) (depth : A → Option ℕ) (level : ℕ) → Gives Any (all_deep dots depth ts level)
    all_deep_any no_trees dots depth level = tt
    all_deep_any (tree t ts) dots depth level =
        then_gives Any Any (deep_enough dots depth t (level + leading dots ts)) (λ done. all_deep dots depth ts level) (deep_any t dots depth (level + leading dots ts)) (λ d h. all_deep_any ts dots depth level)

    deep_tail_any : (tail : Tail A) (dots : A → Bool) (depth : A → Option ℕ) (level : ℕ) → Gives Any (deep_tail dots depth tail level)
    deep_tail_any proper dots depth level = tt
    deep_tail_any (dotted t) dots depth level = deep_any t dots depth level

  module _ (n : Names A) (r : Rules A) where
    rule_any : (rule : Rule A) → Gives Any (check_rule n r rule)
    rule_any rule =
        let dots : A → Bool = dots_of n r in
        let depth : A → Option ℕ = depth_of n.same (pattern_variables n r rule) in
        let pattern : Tree A = list rule.parts rule.tail None in
        then_gives Any Any (refuse (bad_pattern dots pattern || (is_dots dots rule.template || bad_template dots rule.template)) BadRules)
        (λ d. refuse (two_dots dots pattern) TwoEllipses >> λ d. first_twice n.same [] (pattern_variables n r rule) >> λ d. deep_enough dots depth rule.template 0 >> λ d. refuse (is_idle dots depth rule.template 0) IdleEllipsis)
        (refuse_any (bad_pattern dots pattern || (is_dots dots rule.template || bad_template dots rule.template)) BadRules tt)
        (λ d h. then_gives Any Any (refuse (two_dots dots pattern) TwoEllipses)
        (λ d. first_twice n.same [] (pattern_variables n r rule) >> λ d. deep_enough dots depth rule.template 0 >> λ d. refuse (is_idle dots depth rule.template 0) IdleEllipsis)
        (refuse_any (two_dots dots pattern) TwoEllipses tt)
        (λ d h. then_gives Any Any (first_twice n.same [] (pattern_variables n r rule))
        (λ d. deep_enough dots depth rule.template 0 >> λ d. refuse (is_idle dots depth rule.template 0) IdleEllipsis)
        (first_any n.same [] (pattern_variables n r rule))
        (λ d h. then_gives Any Any (deep_enough dots depth rule.template 0) (λ d. refuse (is_idle dots depth rule.template 0) IdleEllipsis) (deep_any rule.template dots depth 0)
        (λ d h. refuse_any (is_idle dots depth rule.template 0) IdleEllipsis tt))))

    all_rules_any : (rules : List (Rule A)) → Gives Any (check_rules n r rules)
    all_rules_any [] = tt
    all_rules_any (rule ∷ rules) = then_gives Any Any (check_rule n r rule) (λ done. check_rules n r rules) (rule_any rule) (λ d h. all_rules_any rules)

  bad_any : {V : Type 0} (r : Result V (Fault A)) → Gives Any (bad r)
  bad_any (Ok v) = tt
  bad_any (Err e) = tt

  rule_in_any : (ts : Trees A) (tail : Tail A) (t : Tree A) → Gives Any (rule_in ts tail t)
  rule_in_any no_trees tail t = tt
  rule_in_any (tree (name i o) ts) tail t = tt
  rule_in_any (tree (atom a o) ts) tail t = tt
  rule_in_any (tree (list us end o) ts) tail t = tt
  rule_in_any (tree (vector us o) ts) tail t = tt

  rule_of_any : (t : Tree A) → Gives Any (rule_of t)
  rule_of_any (name i o) = tt
  rule_of_any (atom a o) = tt
  rule_of_any (vector ts o) = tt
  rule_of_any (list no_trees tail o) = tt
  rule_of_any (list (tree p no_trees) tail o) = tt
  rule_of_any (list (tree p (tree t (tree u us))) tail o) = tt
  rule_of_any (list (tree p (tree t no_trees)) (dotted u) o) = tt
  rule_of_any (list (tree (name i q) (tree t no_trees)) proper o) = tt
  rule_of_any (list (tree (atom a q) (tree t no_trees)) proper o) = tt
  rule_of_any (list (tree (vector us q) (tree t no_trees)) proper o) = tt
  rule_of_any (list (tree (list ps end q) (tree t no_trees)) proper o) = rule_in_any ps end t

  rules_in_any : (ts : Trees A) → Gives Any (rules_in ts)
  rules_in_any no_trees = tt
  rules_in_any (tree t ts) = then_gives Any Any (rule_of t) (λ r. rules_in ts >> λ rs. Ok (r ∷ rs)) (rule_of_any t) (λ r h. then_gives Any Any (rules_in ts) (λ rs. Ok (r ∷ rs)) (rules_in_any ts) (λ rs k. tt))

  behind_any : (e : Option A) (ts : Trees A) → Gives Any (rules_behind e ts)
  behind_any e no_trees = tt
  behind_any e (tree (name i o) ts) = tt
  behind_any e (tree (atom a o) ts) = tt
  behind_any e (tree (vector us o) ts) = tt
  behind_any e (tree (list us (dotted t) o) ts) = tt
  behind_any e (tree (list us proper o) ts) =
      then_gives Any Any (bad (names_of us)) (λ ls. rules_in ts >> λ rs. Ok (record { ellipsis = e; literals = ls; rules = rs })) (bad_any (names_of us))
      (λ ls h. then_gives Any Any (rules_in ts) (λ rs. Ok (record { ellipsis = e; literals = ls; rules = rs })) (rules_in_any ts) (λ rs k. tt))

  rules_parts_any : (ts : Trees A) (tail : Tail A) → Gives Any (rules_parts ts tail)
  rules_parts_any no_trees tail = tt
  rules_parts_any (tree t ts) (dotted u) = tt
  rules_parts_any (tree (name i o) ts) proper = behind_any (Some i) ts
  rules_parts_any (tree (atom a o) ts) proper = tt
  rules_parts_any (tree (list us end o) ts) proper = behind_any None (tree (list us end o) ts)
  rules_parts_any (tree (vector us o) ts) proper = tt

  pub rules_any : (n : Names A) (ts : Trees A) (tail : Tail A) → Gives Any (rules_of n ts tail)
  rules_any n ts tail = then_gives Any Any (rules_parts ts tail) (λ r. check_rules n r r.rules >> λ done. Ok r) (rules_parts_any ts tail) (λ r h. then_gives Any Any (check_rules n r r.rules) (λ done. Ok r) (all_rules_any n r r.rules) (λ d k. tt))

-- ---- instances

-- an instance has so many nodes at most
abbrev pub InstanceWithin : {B : Type 0} → Built (Tree B) → Type 0
InstanceWithin b = tree_size b.value ≤ max_nodes

within_by : (A B : Type 0) (x y z : Bool) (b : Built (Tree B)) → (y ≡ true → InstanceWithin b) → Gives {A = A} InstanceWithin (if x && y then (if z then Ok b else Err DepthBudget) else Err NodeBudget)
within_by A B false y z b h = tt
within_by A B true false z b h = tt
within_by A B true true false b h = tt
within_by A B true true true b h = h refl

few_nodes : {B : Type 0} (t : Tree B) → nat_le (tree_size t) max_nodes ≡ true → tree_size t ≤ max_nodes
few_nodes t h = grind (arith, nat_tests)

lengths_any : (A X : Type 0) (o : Option X) → Gives {A = A} Any (or_lengths o)
lengths_any A X None = tt
lengths_any A X (Some x) = tt

pub build_within : (A B C : Type 0) (n : Names A) (r : Rules A) (insert : A → B) (t : Tree A) (bs : List (Binding A B)) (left : ℕ) → Gives {A = C} InstanceWithin (build n r insert t bs left)
build_within A B C n r insert t bs left =
    let q : Option (Built (Tree B)) = build_tree (record { same = n.same; insert = insert }) (dots_of n r) t bs in
    then_gives Any InstanceWithin (or_lengths q) (within {A = C} left) (lengths_any C (Built (Tree B)) q)
    (λ b h. within_by C B (nat_le b.count left) (nat_le (tree_size b.value) max_nodes) (nat_le (tree_depth b.value) max_depth) b (few_nodes b.value))
