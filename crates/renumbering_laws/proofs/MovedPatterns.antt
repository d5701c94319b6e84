-- What rules tell of their patterns and templates, once each identifier and each place is changed: ellipses, variables, depths.
use Rattle.std.proofs.Common.{◌≡◌, ℕ, suc, ◌+◌, List, [], ◌∷◌, map, Bool, true, false, not, cond, Option, Some, None, refl, ap, ◌∙◌}
use Rattle.std.specs.Prelude.{◌||◌, ◌&&◌, nat_lt}
use Rattle.scheme_model.specs.declared.Occ.{Occ}
use Rattle.scheme_model.specs.Trees.{Tree, name, atom, list, vector, Trees, no_trees, tree, Tail, proper, dotted}
use Rattle.scheme_model.specs.RulesShape.{option_map, Role, IsLiteral, IsEllipsis, IsAny, IsVariable, acts_as_ellipsis, is_dots, starts_dots, ends_dots, leading, bad_pattern, some_bad_pattern, bad_pattern_tail, dots_count, two_dots, some_two_dots, two_dots_tail, Variable, variable_at, depth_before, variables_in, variables_among, variables_behind, depth_of, escape_of, unless_escape, bad_template, some_bad_template, bad_template_tail, deepest, deepest_among, deepest_tail, most, greater, is_idle, some_idle, idle_tail}
use Rattle.scheme_model.proofs.RenamingLaws.{append_map}
use Rattle.renumbering_laws.specs.Moving.{Change, move_named, move_tail, move_tree, move_trees}

module _ (A B : Type 0) (f : Change A B) where
  abbrev pub variable_map : Variable A → Variable B
  variable_map v = record { variable = move_named f v.variable; depth = v.depth }

  -- ---- ellipses

  module _ (dots : A → Bool) (dots' : B → Bool) (same_dots : (i : A) → dots' (f.on i) ≡ dots i) where
    pub is_dots-map : (t : Tree A) → is_dots dots' (move_tree f t) ≡ is_dots dots t
    is_dots-map (name i o) = same_dots i
    is_dots-map (atom a o) = refl
    is_dots-map (list ts tail o) = refl
    is_dots-map (vector ts o) = refl

    starts_dots-map : (ts : Trees A) → starts_dots dots' (move_trees f ts) ≡ starts_dots dots ts
    starts_dots-map no_trees = refl
    starts_dots-map (tree t ts) = is_dots-map t

    ends_dots-map : (tail : Tail A) → ends_dots dots' (move_tail f tail) ≡ ends_dots dots tail
    ends_dots-map proper = refl
    ends_dots-map (dotted t) = is_dots-map t

    pub leading-map : (ts : Trees A) → leading dots' (move_trees f ts) ≡ leading dots ts
    leading-map no_trees = refl
    leading-map (tree t ts) = let a = is_dots-map t in let b = leading-map ts in λ j. cond (a j) (suc (b j)) 0

    pub dots_count-map : (ts : Trees A) → dots_count dots' (move_trees f ts) ≡ dots_count dots ts
    dots_count-map no_trees = refl
    dots_count-map (tree t ts) = let a = is_dots-map t in let b = dots_count-map ts in λ j. cond (a j) (suc (b j)) (b j)

    mutual
      pub bad_pattern-map : (t : Tree A) → bad_pattern dots' (move_tree f t) ≡ bad_pattern dots t
      bad_pattern-map (name i o) = refl
      bad_pattern-map (atom a o) = refl
      bad_pattern-map (list ts tail o) =
          let a = starts_dots-map ts in let b = ends_dots-map tail in let c = some_bad_pattern-map ts in let d = bad_pattern_tail-map tail in
          λ j. a j || (b j || (c j || d j))
      bad_pattern-map (vector ts o) = let a = starts_dots-map ts in let c = some_bad_pattern-map ts in λ j. a j || c j

      some_bad_pattern-map : (ts : Trees A) → some_bad_pattern dots' (move_trees f ts) ≡ some_bad_pattern dots ts
      some_bad_pattern-map no_trees = refl
      some_bad_pattern-map (tree t ts) = let a = bad_pattern-map t in let b = some_bad_pattern-map ts in λ j. a j || b j

      bad_pattern_tail-map : (tail : Tail A) → bad_pattern_tail dots' (move_tail f tail) ≡ bad_pattern_tail dots tail
      bad_pattern_tail-map proper = refl
      bad_pattern_tail-map (dotted t) = bad_pattern-map t

    mutual
      pub two_dots-map : (t : Tree A) → two_dots dots' (move_tree f t) ≡ two_dots dots t
      two_dots-map (name i o) = refl
      two_dots-map (atom a o) = refl
      two_dots-map (list ts tail o) =
          let a = dots_count-map ts in let b = some_two_dots-map ts in let c = two_dots_tail-map tail in
          λ j. nat_lt 1 (a j) || (b j || c j)
      two_dots-map (vector ts o) = let a = dots_count-map ts in let b = some_two_dots-map ts in λ j. nat_lt 1 (a j) || b j

      some_two_dots-map : (ts : Trees A) → some_two_dots dots' (move_trees f ts) ≡ some_two_dots dots ts
      some_two_dots-map no_trees = refl
      some_two_dots-map (tree t ts) = let a = two_dots-map t in let b = some_two_dots-map ts in λ j. a j || b j

      two_dots_tail-map : (tail : Tail A) → two_dots_tail dots' (move_tail f tail) ≡ two_dots_tail dots tail
      two_dots_tail-map proper = refl
      two_dots_tail-map (dotted t) = two_dots-map t

    depth_before-map : (ts : Trees A) (depth : ℕ) → depth_before dots' (move_trees f ts) depth ≡ depth_before dots ts depth
    depth_before-map ts depth = ap (λ t. cond t (suc depth) depth) (starts_dots-map ts)

    pub escape_of-map : (ts : Trees A) (tail : Tail A) → escape_of dots' (move_trees f ts) (move_tail f tail) ≡ option_map (move_tree f) (escape_of dots ts tail)
    escape_of-map no_trees tail = refl
    escape_of-map (tree t no_trees) tail = refl
    escape_of-map (tree t (tree u no_trees)) proper = ap (λ b. cond b (Some (move_tree f u)) None) (is_dots-map t) ∙ go (is_dots dots t)
      where
        go : (b : Bool) → cond b (Some (move_tree f u)) None ≡ option_map (move_tree f) (cond b (Some u) None)
        go true = refl
        go false = refl
    escape_of-map (tree t (tree u no_trees)) (dotted v) = refl
    escape_of-map (tree t (tree u (tree v vs))) tail = refl

    unless-map : (o : Option (Tree A)) {b b' : Bool} → b' ≡ b → unless_escape (option_map (move_tree f) o) b' ≡ unless_escape o b
    unless-map (Some t) e = refl
    unless-map None e = e

    -- a list of a template that is an escape is never bad, nor idle
    escapes : (ts : Trees A) (tail : Tail A) {b b' : Bool} → b' ≡ b → unless_escape (escape_of dots' (move_trees f ts) (move_tail f tail)) b' ≡ unless_escape (escape_of dots ts tail) b
    escapes ts tail {b} {b'} e = ap (λ o. unless_escape o b') (escape_of-map ts tail) ∙ unless-map (escape_of dots ts tail) e

    mutual
      pub bad_template-map : (t : Tree A) → bad_template dots' (move_tree f t) ≡ bad_template dots t
      bad_template-map (name i o) = refl
      bad_template-map (atom a o) = refl
      bad_template-map (list ts tail o) =
          let a = starts_dots-map ts in let b = ends_dots-map tail in let c = some_bad_template-map ts in let d = bad_template_tail-map tail in
          escapes ts tail (λ j. a j || (b j || (c j || d j)))
      bad_template-map (vector ts o) = let a = starts_dots-map ts in let c = some_bad_template-map ts in λ j. a j || c j

      some_bad_template-map : (ts : Trees A) → some_bad_template dots' (move_trees f ts) ≡ some_bad_template dots ts
      some_bad_template-map no_trees = refl
      some_bad_template-map (tree t ts) = let a = bad_template-map t in let b = some_bad_template-map ts in λ j. a j || b j

      bad_template_tail-map : (tail : Tail A) → bad_template_tail dots' (move_tail f tail) ≡ bad_template_tail dots tail
      bad_template_tail-map proper = refl
      bad_template_tail-map (dotted t) = bad_template-map t

    -- ---- depths

    module _ (depth : A → Option ℕ) (depth' : B → Option ℕ) (same_depth : (i : A) → depth' (f.on i) ≡ depth i) where
      mutual
        deepest-map : (t : Tree A) → deepest depth' (move_tree f t) ≡ deepest depth t
        deepest-map (name i o) = ap most (same_depth i)
        deepest-map (atom a o) = refl
        deepest-map (list ts tail o) = let a = deepest_among-map ts in let b = deepest_tail-map tail in λ j. greater (a j) (b j)
        deepest-map (vector ts o) = deepest_among-map ts

        deepest_among-map : (ts : Trees A) → deepest_among depth' (move_trees f ts) ≡ deepest_among depth ts
        deepest_among-map no_trees = refl
        deepest_among-map (tree t ts) = let a = deepest-map t in let b = deepest_among-map ts in λ j. greater (a j) (b j)

        deepest_tail-map : (tail : Tail A) → deepest_tail depth' (move_tail f tail) ≡ deepest_tail depth tail
        deepest_tail-map proper = refl
        deepest_tail-map (dotted t) = deepest-map t

      mutual
        pub is_idle-map : (t : Tree A) (level : ℕ) → is_idle dots' depth' (move_tree f t) level ≡ is_idle dots depth t level
        is_idle-map (name i o) level = refl
        is_idle-map (atom a o) level = refl
        is_idle-map (list ts tail o) level = let a = some_idle-map ts level in let b = idle_tail-map tail level in escapes ts tail (λ j. a j || b j)
        is_idle-map (vector ts o) level = some_idle-map ts level

        some_idle-map : (ts : Trees A) (level : ℕ) → some_idle dots' depth' (move_trees f ts) level ≡ some_idle dots depth ts level
        some_idle-map no_trees level = refl
        some_idle-map (tree t ts) level =
            let a = is_dots-map t in let n = leading-map ts in let d = deepest-map t in
            let here : is_idle dots' depth' (move_tree f t) (level + leading dots' (move_trees f ts)) ≡ is_idle dots depth t (level + leading dots ts) = ap (λ (m : ℕ). is_idle dots' depth' (move_tree f t) (level + m)) n ∙ is_idle-map t (level + leading dots ts) in
            let b = some_idle-map ts level in
            λ j. (not (a j) && (nat_lt 0 (n j) && nat_lt (d j) (level + n j))) || (here j || b j)

        idle_tail-map : (tail : Tail A) (level : ℕ) → idle_tail dots' depth' (move_tail f tail) level ≡ idle_tail dots depth tail level
        idle_tail-map proper level = refl
        idle_tail-map (dotted t) level = is_idle-map t level

  -- ---- variables

  variable_at-map : (r : Role) (i : A) (o : Option Occ) (depth : ℕ) → variable_at r (f.on i) (f.at o) depth ≡ map variable_map (variable_at r i o depth)
  variable_at-map IsLiteral i o depth = refl
  variable_at-map IsEllipsis i o depth = refl
  variable_at-map IsAny i o depth = refl
  variable_at-map IsVariable i o depth = refl

  module _ (role : A → Role) (role' : B → Role) (same_role : (i : A) → role' (f.on i) ≡ role i) where
    mutual
      variables_in-map : (t : Tree A) (depth : ℕ) → variables_in role' (move_tree f t) depth ≡ map variable_map (variables_in role t depth)
      variables_in-map (name i o) depth = ap (λ r. variable_at r (f.on i) (f.at o) depth) (same_role i) ∙ variable_at-map (role i) i o depth
      variables_in-map (atom a o) depth = refl
      variables_in-map (list ts tail o) depth = append_map variable_map (variables_among role ts depth) (variables_behind role tail depth) (variables_among-map ts depth) (variables_behind-map tail depth)
      variables_in-map (vector ts o) depth = variables_among-map ts depth

      pub variables_among-map : (ts : Trees A) (depth : ℕ) → variables_among role' (move_trees f ts) depth ≡ map variable_map (variables_among role ts depth)
      variables_among-map no_trees depth = refl
      variables_among-map (tree t ts) depth =
          let n = depth_before-map (λ i. acts_as_ellipsis (role i)) (λ i. acts_as_ellipsis (role' i)) (λ i. ap acts_as_ellipsis (same_role i)) ts depth in
          append_map variable_map (variables_in role t (depth_before (λ i. acts_as_ellipsis (role i)) ts depth)) (variables_among role ts depth)
          (ap (variables_in role' (move_tree f t)) n ∙ variables_in-map t (depth_before (λ i. acts_as_ellipsis (role i)) ts depth)) (variables_among-map ts depth)

      pub variables_behind-map : (tail : Tail A) (depth : ℕ) → variables_behind role' (move_tail f tail) depth ≡ map variable_map (variables_behind role tail depth)
      variables_behind-map proper depth = refl
      variables_behind-map (dotted t) depth = variables_in-map t depth

  pub depth_of-map : (same : A → A → Bool) (same' : B → B → Bool) (told : (i j : A) → same' (f.on i) (f.on j) ≡ same i j) (vs : List (Variable A)) (i : A)
      → depth_of same' (map variable_map vs) (f.on i) ≡ depth_of same vs i
  depth_of-map same same' told [] i = refl
  depth_of-map same same' told (v ∷ vs) i = let a = told v.variable.name i in let b = depth_of-map same same' told vs i in λ j. cond (a j) (Some v.depth) (b j)
