-- Reading and checking the rules of a macro commutes with a change that tells identifiers apart.
use Rattle.std.proofs.Common.{◌≡◌, ℕ, ◌+◌, List, [], ◌∷◌, map, Bool, cond, Option, Some, None, Result, Ok, Err, codes, refl, sym, ap, ◌∙◌, subst}
use Rattle.std.specs.Prelude.{◌||◌}
use Rattle.std.specs.Str.{bytes_eq}
use Rattle.scheme_model.specs.declared.Occ.{Occ}
use Rattle.scheme_model.specs.Trees.{Tree, name, atom, list, vector, Trees, no_trees, tree, Tail, proper, dotted}
use Rattle.scheme_model.specs.ExpansionFaults.{Named, Fault, BadRules, TwoEllipses, IdleEllipsis, ◌>>◌}
use Rattle.scheme_model.specs.Shapes.{names_of}
use Rattle.scheme_model.specs.RulesShape.{Rule, Rules, option_map, IsLiteral, IsEllipsis, IsAny, IsVariable, Names, is_ellipsis, role_of, acts_as_ellipsis, dots_of, is_dots, leading, bad_pattern, Variable, variables_among, variables_behind, first_twice, depth_of, escape_of, bad_template, too_shallow, nowhere, deep_in, deep_enough, all_deep, deep_tail, pattern_variables, refuse, check_rule, check_rules, bad, rule_in, rule_of, rules_in, rules_behind, rules_parts, rules_of}
use Rattle.scheme_model.proofs.RenamingLaws.{append_map}
use Rattle.renumbering_laws.specs.Moving.{Change, move_named, move_rule, move_rules, move_tail, move_tree, move_trees}
use Rattle.renumbering_laws.proofs.MovingSteps.{Reads, reads, then_map, cond_reads}
use Rattle.renumbering_laws.proofs.MovedShapes.{names_of-map, is_among-map}
use Rattle.renumbering_laws.proofs.MovedPatterns.{variable_map, is_dots-map, leading-map, bad_pattern-map, two_dots-map, escape_of-map, bad_template-map, is_idle-map, variables_among-map, variables_behind-map, depth_of-map}
use Rattle.renumbering_laws.proofs.MovedParts.{Moves, move_result}

-- ---- reading

module _ (A B : Type 0) (f : Change A B) where
  rule_in-map : (ts : Trees A) (tail : Tail A) (template : Tree A) → Reads f (move_rule f) (rule_in ts tail template) (rule_in (move_trees f ts) (move_tail f tail) (move_tree f template))
  rule_in-map no_trees tail template = reads refl
  rule_in-map (tree (name i o) ts) tail template = reads refl
  rule_in-map (tree (atom a o) ts) tail template = reads refl
  rule_in-map (tree (list us end o) ts) tail template = reads refl
  rule_in-map (tree (vector us o) ts) tail template = reads refl

  rule_of-map : (t : Tree A) → Reads f (move_rule f) (rule_of t) (rule_of (move_tree f t))
  rule_of-map (name i o) = reads refl
  rule_of-map (atom a o) = reads refl
  rule_of-map (vector ts o) = reads refl
  rule_of-map (list no_trees tail o) = reads refl
  rule_of-map (list (tree p no_trees) tail o) = reads refl
  rule_of-map (list (tree p (tree t (tree u us))) tail o) = reads refl
  rule_of-map (list (tree p (tree t no_trees)) (dotted u) o) = reads refl
  rule_of-map (list (tree (name i q) (tree t no_trees)) proper o) = reads refl
  rule_of-map (list (tree (atom a q) (tree t no_trees)) proper o) = reads refl
  rule_of-map (list (tree (vector us q) (tree t no_trees)) proper o) = reads refl
  rule_of-map (list (tree (list ps end q) (tree t no_trees)) proper o) = rule_in-map ps end t

  rules_in-map : (ts : Trees A) → Reads f (map (move_rule f)) (rules_in ts) (rules_in (move_trees f ts))
  rules_in-map no_trees = reads refl
  rules_in-map (tree t ts) = then_map _ (rule_of-map t) (λ r. then_map _ (rules_in-map ts) (λ rs. reads refl))

  bad-map : {X Y : Type 0} (g : X → Y) (r : Result X (Fault A)) {r' : Result Y (Fault B)} → Reads f g r r' → Reads f g (bad r) (bad r')
  bad-map {X} {Y} g r {r'} (reads e) = subst (λ (q : Result Y (Fault B)). Reads f g (bad r) (bad q)) (sym e) (go r)
    where
      go : (q : Result X (Fault A)) → Reads f g (bad q) (bad (move_result f g q))
      go (Ok x) = reads refl
      go (Err d) = reads refl

  rules_behind-map : (e : Option A) (ts : Trees A) → Reads f (move_rules f) (rules_behind e ts) (rules_behind (option_map f.on e) (move_trees f ts))
  rules_behind-map e no_trees = reads refl
  rules_behind-map e (tree (name i o) ts) = reads refl
  rules_behind-map e (tree (atom a o) ts) = reads refl
  rules_behind-map e (tree (vector us o) ts) = reads refl
  rules_behind-map e (tree (list us (dotted t) o) ts) = reads refl
  rules_behind-map e (tree (list us proper o) ts) = then_map _ (bad-map (map (move_named f)) (names_of us) (names_of-map A B f us)) (λ ls. then_map _ (rules_in-map ts) (λ rs. reads refl))

  rules_parts-map : (ts : Trees A) (tail : Tail A) → Reads f (move_rules f) (rules_parts ts tail) (rules_parts (move_trees f ts) (move_tail f tail))
  rules_parts-map no_trees tail = reads refl
  rules_parts-map (tree t ts) (dotted u) = reads refl
  rules_parts-map (tree (name i o) ts) proper = rules_behind-map (Some i) ts
  rules_parts-map (tree (atom a o) ts) proper = reads refl
  rules_parts-map (tree (list us end o) ts) proper = rules_behind-map None (tree (list us end o) ts)
  rules_parts-map (tree (vector us o) ts) proper = reads refl

  -- ---- depths of variables in a template

  abbrev same_unit : Unit {0} → Unit {0}
  same_unit u = u

  too_shallow-map : (d : Option ℕ) (i : A) (o : Option Occ) (level : ℕ) → Reads f same_unit (too_shallow d i o level) (too_shallow d (f.on i) (f.at o) level)
  too_shallow-map None i o level = reads refl
  too_shallow-map (Some d) i o level = cond_reads refl (reads refl) (reads refl)

  deep_in-map : (e : Option (Tree A)) {x y : Result (Unit {0}) (Fault A)} {x' y' : Result (Unit {0}) (Fault B)} → Reads f same_unit x x' → Reads f same_unit y y' → Reads f same_unit (deep_in e x y) (deep_in (option_map (move_tree f) e) x' y')
  deep_in-map None hx hy = hy
  deep_in-map (Some t) hx hy = hx

  module _ (depth : A → Option ℕ) (depth' : B → Option ℕ) (same_depth : (i : A) → depth' (f.on i) ≡ depth i) where
    mutual
      deep_enough-map : (dots : A → Bool) (dots' : B → Bool) → ((i : A) → dots' (f.on i) ≡ dots i) → (t : Tree A) (level : ℕ) → Reads f same_unit (deep_enough dots depth t level) (deep_enough dots' depth' (move_tree f t) level)
      deep_enough-map dots dots' h (name i o) level = subst (λ (d : Option ℕ). Reads f same_unit (too_shallow (depth i) i o level) (too_shallow d (f.on i) (f.at o) level)) (sym (same_depth i)) (too_shallow-map (depth i) i o level)
      deep_enough-map dots dots' h (atom a o) level = reads refl
      deep_enough-map dots dots' h (list ts tail o) level =
          subst (λ (e : Option (Tree B)). Reads f same_unit (deep_enough dots depth (list ts tail o) level) (deep_in e (all_deep nowhere depth' (move_trees f ts) level) (all_deep dots' depth' (move_trees f ts) level >> λ done. deep_tail dots' depth' (move_tail f tail) level)))
          (sym (escape_of-map A B f dots dots' h ts tail))
          (deep_in-map (escape_of dots ts tail) (all_deep-map nowhere nowhere (λ i. refl) ts level)
          (then_map (λ done. deep_tail dots' depth' (move_tail f tail) level) (all_deep-map dots dots' h ts level) (λ done. deep_tail-map dots dots' h tail level)))
      deep_enough-map dots dots' h (vector ts o) level = all_deep-map dots dots' h ts level

      all_deep-map : (dots : A → Bool) (dots' : B → Bool) → ((i : A) → dots' (f.on i) ≡ dots i) → (ts : Trees A) (level : ℕ) → Reads f same_unit (all_deep dots depth ts level) (all_deep dots' depth' (move_trees f ts) level)
      all_deep-map dots dots' h no_trees level = reads refl
      all_deep-map dots dots' h (tree t ts) level =
          then_map (λ done. all_deep dots' depth' (move_trees f ts) level)
          (subst (λ (n : ℕ). Reads f same_unit (deep_enough dots depth t (level + leading dots ts)) (deep_enough dots' depth' (move_tree f t) (level + n))) (sym (leading-map A B f dots dots' h ts)) (deep_enough-map dots dots' h t (level + leading dots ts)))
          (λ done. all_deep-map dots dots' h ts level)

      deep_tail-map : (dots : A → Bool) (dots' : B → Bool) → ((i : A) → dots' (f.on i) ≡ dots i) → (tail : Tail A) (level : ℕ) → Reads f same_unit (deep_tail dots depth tail level) (deep_tail dots' depth' (move_tail f tail) level)
      deep_tail-map dots dots' h proper level = reads refl
      deep_tail-map dots dots' h (dotted t) level = deep_enough-map dots dots' h t level

  refuse-map : (fault : Fault A) (fault' : Fault B) → Reads f same_unit (Err fault) (Err fault') → {b b' : Bool} → b' ≡ b → Reads f same_unit (refuse b fault) (refuse b' fault')
  refuse-map fault fault' h e = cond_reads e h (reads refl)

-- ---- roles

module _ (A B : Type 0) (f : Change A B) (n : Names A) (m : Names B) (told : Moves f n m) where
  is_ellipsis-map : (e : Option A) (i : A) → is_ellipsis m (option_map f.on e) (f.on i) ≡ is_ellipsis n e i
  is_ellipsis-map (Some e) i = told.same e i
  is_ellipsis-map None i = ap (λ s. bytes_eq s (codes "...")) (told.strip i)

  pub role_of-map : (r : Rules A) (i : A) → role_of m (move_rules f r) (f.on i) ≡ role_of n r i
  role_of-map r i =
      let l = is_among-map A B f n.same m.same told.same i r.literals in
      let e = is_ellipsis-map r.ellipsis i in
      let w = ap (λ s. bytes_eq s (codes "_")) (told.strip i) in
      λ j. cond (l j) IsLiteral (cond (e j) IsEllipsis (cond (w j) IsAny IsVariable))

  pub dots_of-map : (r : Rules A) (i : A) → dots_of m (move_rules f r) (f.on i) ≡ dots_of n r i
  dots_of-map r i = ap acts_as_ellipsis (role_of-map r i)

  -- ---- the check

  pub pattern_variables-map : (r : Rules A) (rule : Rule A) → pattern_variables m (move_rules f r) (move_rule f rule) ≡ map (variable_map A B f) (pattern_variables n r rule)
  pattern_variables-map r rule =
      append_map (variable_map A B f) (variables_among (role_of n r) rule.parts 0) (variables_behind (role_of n r) rule.tail 0)
      (variables_among-map A B f (role_of n r) (role_of m (move_rules f r)) (role_of-map r) rule.parts 0)
      (variables_behind-map A B f (role_of n r) (role_of m (move_rules f r)) (role_of-map r) rule.tail 0)

  first_twice-map : (seen : List (Named A)) (vs : List (Variable A)) → Reads f (same_unit A B f) (first_twice n.same seen vs) (first_twice m.same (map (move_named f) seen) (map (variable_map A B f) vs))
  first_twice-map seen [] = reads refl
  first_twice-map seen (v ∷ vs) = cond_reads (is_among-map A B f n.same m.same told.same v.variable.name seen) (reads refl) (first_twice-map (v.variable ∷ seen) vs)

  module _ (r : Rules A) (rule : Rule A) where
    abbrev before : A → Option ℕ
    before i = depth_of n.same (pattern_variables n r rule) i

    abbrev after : B → Option ℕ
    after i = depth_of m.same (pattern_variables m (move_rules f r) (move_rule f rule)) i

    depths : (i : A) → after (f.on i) ≡ before i
    depths i = ap (λ (vs : List (Variable B)). depth_of m.same vs (f.on i)) (pattern_variables-map r rule) ∙ depth_of-map A B f n.same m.same told.same (pattern_variables n r rule) i

    bad_rule : (bad_pattern (dots_of m (move_rules f r)) (list (move_trees f rule.parts) (move_tail f rule.tail) None) || (is_dots (dots_of m (move_rules f r)) (move_tree f rule.template) || bad_template (dots_of m (move_rules f r)) (move_tree f rule.template)))
        ≡ (bad_pattern (dots_of n r) (list rule.parts rule.tail None) || (is_dots (dots_of n r) rule.template || bad_template (dots_of n r) rule.template))
    bad_rule =
        let a = bad_pattern-map A B f (dots_of n r) (dots_of m (move_rules f r)) (dots_of-map r) (list rule.parts rule.tail None) in
        let b = is_dots-map A B f (dots_of n r) (dots_of m (move_rules f r)) (dots_of-map r) rule.template in
        let c = bad_template-map A B f (dots_of n r) (dots_of m (move_rules f r)) (dots_of-map r) rule.template in
        λ j. a j || (b j || c j)

    twice : Reads f (same_unit A B f) (first_twice n.same [] (pattern_variables n r rule)) (first_twice m.same [] (pattern_variables m (move_rules f r) (move_rule f rule)))
    twice = subst (λ (vs : List (Variable B)). Reads f (same_unit A B f) (first_twice n.same [] (pattern_variables n r rule)) (first_twice m.same [] vs)) (sym (pattern_variables-map r rule)) (first_twice-map [] (pattern_variables n r rule))

    check_rule-map : Reads f (same_unit A B f) (check_rule n r rule) (check_rule m (move_rules f r) (move_rule f rule))
    check_rule-map =
        then_map _ (refuse-map A B f BadRules BadRules (reads refl) bad_rule) (λ d1.
        then_map _ (refuse-map A B f TwoEllipses TwoEllipses (reads refl) (two_dots-map A B f (dots_of n r) (dots_of m (move_rules f r)) (dots_of-map r) (list rule.parts rule.tail None))) (λ d2.
        then_map _ twice (λ d3.
        then_map _ (deep_enough-map A B f before after depths (dots_of n r) (dots_of m (move_rules f r)) (dots_of-map r) rule.template 0) (λ d4.
        refuse-map A B f IdleEllipsis IdleEllipsis (reads refl) (is_idle-map A B f (dots_of n r) (dots_of m (move_rules f r)) (dots_of-map r) before after depths rule.template 0)))))

  check_rules-map : (r : Rules A) (rs : List (Rule A)) → Reads f (same_unit A B f) (check_rules n r rs) (check_rules m (move_rules f r) (map (move_rule f) rs))
  check_rules-map r [] = reads refl
  check_rules-map r (rule ∷ rs) = then_map _ (check_rule-map r rule) (λ done. check_rules-map r rs)

  pub rules_of-map : (ts : Trees A) (tail : Tail A) → Reads f (move_rules f) (rules_of n ts tail) (rules_of m (move_trees f ts) (move_tail f tail))
  rules_of-map ts tail = then_map _ (rules_parts-map A B f ts tail) (λ r. then_map _ (check_rules-map r r.rules) (λ done. reads refl))
