-- Which literals of rules are compared with which identifiers of a use, once both sides are changed.
use Rattle.std.proofs.Common.{◌≡◌, ℕ, zero, suc, ◌-◌, ◌*◌, List, [], ◌∷◌, ◌++◌, map, Bool, true, false, refl, sym, ap, ◌∙◌}
use Rattle.std.specs.Prelude.{nat_le}
use Rattle.scheme_model.specs.Trees.{Tree, name, atom, list, vector, Trees, no_trees, tree, Tail, proper, dotted}
use Rattle.scheme_model.specs.TreeParts.{count}
use Rattle.scheme_model.specs.RulesShape.{Rule, option_map, Role, IsLiteral, IsEllipsis, IsAny, IsVariable, dots_count}
use Rattle.scheme_model.specs.Matching.{rest_of, front, behind, chosen, list_parts, vector_parts, least, tail_fits, can_take, pair_of, pairs_each, of_list, of_vector, of_first, no_pairs, pairs_in, pairs_among, pairs_behind, compared}
use Rattle.scheme_model.specs.Renaming.{pair_map}
use Rattle.scheme_model.proofs.RenamingLaws.{append_map}
use Rattle.renumbering_laws.specs.Moving.{Change, move_rule, move_tail, move_tree, move_trees}
use Rattle.renumbering_laws.proofs.MovingSteps.{count-map}
use Rattle.renumbering_laws.proofs.MovedPatterns.{is_dots-map, dots_count-map}
use Rattle.renumbering_laws.proofs.MovedParts.{KeepsNone}

-- ---- parts of a form

module _ (B D : Type 0) (g : Change B D) where
  abbrev pub with_end : Trees B × Tail B → Trees D × Tail D
  with_end q = (move_trees g q.0, move_tail g q.1)

  pub rest_of-map : KeepsNone g → (ts : Trees B) (end : Tail B) → rest_of (move_trees g ts) (move_tail g end) ≡ move_tree g (rest_of ts end)
  rest_of-map none no_trees proper = ap (λ o. list no_trees proper o) (sym none)
  rest_of-map none no_trees (dotted t) = refl
  rest_of-map none (tree t ts) end = ap (λ o. list (tree (move_tree g t) (move_trees g ts)) (move_tail g end) o) (sym none)

  pub front-map : (n : ℕ) (ts : Trees B) → front n (move_trees g ts) ≡ move_trees g (front n ts)
  front-map zero ts = refl
  front-map (suc n) no_trees = refl
  front-map (suc n) (tree t ts) = ap (tree (move_tree g t)) (front-map n ts)

  pub behind-map : (n : ℕ) (ts : Trees B) → behind n (move_trees g ts) ≡ move_trees g (behind n ts)
  behind-map zero ts = refl
  behind-map (suc n) no_trees = refl
  behind-map (suc n) (tree t ts) = behind-map n ts

  pub list_parts-map : (t : Tree B) → list_parts (move_tree g t) ≡ option_map with_end (list_parts t)
  list_parts-map (name j o) = refl
  list_parts-map (atom b o) = refl
  list_parts-map (list us tail o) = refl
  list_parts-map (vector us o) = refl

  pub vector_parts-map : (t : Tree B) → vector_parts (move_tree g t) ≡ option_map (move_trees g) (vector_parts t)
  vector_parts-map (name j o) = refl
  vector_parts-map (atom b o) = refl
  vector_parts-map (list us tail o) = refl
  vector_parts-map (vector us o) = refl

-- ---- choices

chosen_goes : {X Y : Type 0} (h : X → Y) (t : Bool) (x y : Unit {0} → X) (x' y' : Unit {0} → Y) → x' tt ≡ h (x tt) → y' tt ≡ h (y tt) → chosen t x' y' ≡ h (chosen t x y)
chosen_goes h true x y x' y' ex ey = ex
chosen_goes h false x y x' y' ex ey = ey

pub chosen-map : {X Y : Type 0} (h : X → Y) (x y : Unit {0} → X) (x' y' : Unit {0} → Y) {t t' : Bool} → t' ≡ t → x' tt ≡ h (x tt) → y' tt ≡ h (y tt) → chosen t' x' y' ≡ h (chosen t x y)
chosen-map h x y x' y' {t} {t'} e ex ey = ap (λ b. chosen b x' y') e ∙ chosen_goes h t x y x' y' ex ey

module _ (A B C D : Type 0) (f : Change A C) (g : Change B D) (none : KeepsNone g) where
  abbrev pairs : List (A × B) → List (C × D)
  pairs qs = map (pair_map f.on g.on) qs

  tail_fits-map : (tail : Tail A) (more : Bool) (n m : ℕ) (end : Tail B) → tail_fits (move_tail f tail) more n m (move_tail g end) ≡ tail_fits tail more n m end
  tail_fits-map (dotted p) more n m end = refl
  tail_fits-map proper more n m (dotted t) = refl
  tail_fits-map proper true n m proper = refl
  tail_fits-map proper false n m proper = refl

  pair_of-map : (r : Role) (i : A) (t : Tree B) → pair_of r (f.on i) (move_tree g t) ≡ pairs (pair_of r i t)
  pair_of-map IsLiteral i (name j o) = refl
  pair_of-map IsLiteral i (atom b o) = refl
  pair_of-map IsLiteral i (list us tail o) = refl
  pair_of-map IsLiteral i (vector us o) = refl
  pair_of-map IsEllipsis i t = refl
  pair_of-map IsAny i t = refl
  pair_of-map IsVariable i t = refl

  pairs_each-map : (k : Tree B → List (A × B)) (k' : Tree D → List (C × D)) → ((t : Tree B) → k' (move_tree g t) ≡ pairs (k t)) → (ts : Trees B) → pairs_each k' (move_trees g ts) ≡ pairs (pairs_each k ts)
  pairs_each-map k k' h no_trees = refl
  pairs_each-map k k' h (tree t ts) = append_map (pair_map f.on g.on) (k t) (pairs_each k ts) (h t) (pairs_each-map k k' h ts)

  of_list-map : (k : Trees B × Tail B → List (A × B)) (k' : Trees D × Tail D → List (C × D)) → ((q : Trees B × Tail B) → k' (with_end B D g q) ≡ pairs (k q)) → (t : Tree B) → of_list (list_parts (move_tree g t)) k' ≡ pairs (of_list (list_parts t) k)
  of_list-map k k' h (name j o) = refl
  of_list-map k k' h (atom b o) = refl
  of_list-map k k' h (list us tail o) = h (us, tail)
  of_list-map k k' h (vector us o) = refl

  of_vector-map : (k : Trees B → List (A × B)) (k' : Trees D → List (C × D)) → ((ts : Trees B) → k' (move_trees g ts) ≡ pairs (k ts)) → (t : Tree B) → of_vector (vector_parts (move_tree g t)) k' ≡ pairs (of_vector (vector_parts t) k)
  of_vector-map k k' h (name j o) = refl
  of_vector-map k k' h (atom b o) = refl
  of_vector-map k k' h (list us tail o) = refl
  of_vector-map k k' h (vector us o) = h us

  of_first-map : (k : Tree B → Trees B → List (A × B)) (k' : Tree D → Trees D → List (C × D)) → ((t : Tree B) (ts : Trees B) → k' (move_tree g t) (move_trees g ts) ≡ pairs (k t ts)) → (ts : Trees B) → of_first (move_trees g ts) k' ≡ pairs (of_first ts k)
  of_first-map k k' h no_trees = refl
  of_first-map k k' h (tree t ts) = h t ts

  module _ (role : A → Role) (role' : C → Role) (same_role : (i : A) → role' (f.on i) ≡ role i) (dots : A → Bool) (dots' : C → Bool) (same_dots : (i : A) → dots' (f.on i) ≡ dots i) where
    pub can_take-map : (ps : Trees A) (tail : Tail A) (ts : Trees B) (end : Tail B) → can_take dots' (move_trees f ps) (move_tail f tail) (move_trees g ts) (move_tail g end) ≡ can_take dots ps tail ts end
    can_take-map ps tail ts end =
        let d = dots_count-map A C f dots dots' same_dots ps in let n = count-map A C f ps in let m = count-map B D g ts in
        (λ j. tail_fits (move_tail f tail) (nat_le 1 (d j)) (n j - 2 * d j) (m j) (move_tail g end)) ∙ tail_fits-map tail (nat_le 1 (dots_count dots ps)) (least dots ps) (count ts) end

    -- what follows in the pattern
    abbrev Rest : (Trees B → Tail B → List (A × B)) → (Trees D → Tail D → List (C × D)) → Type 0
    Rest rest rest' = (ts : Trees B) (end : Tail B) → rest' (move_trees g ts) (move_tail g end) ≡ pairs (rest ts end)

    -- the parts that an ellipsis takes, and those behind them
    taken_parts : (after : ℕ) (after' : ℕ) → after' ≡ after → (ts : Trees B) → front (count (move_trees g ts) - after') (move_trees g ts) ≡ move_trees g (front (count ts - after) ts)
    taken_parts after after' e ts = let m = count-map B D g ts in (λ j. front (m j - e j) (move_trees g ts)) ∙ front-map B D g (count ts - after) ts

    left_parts : (after : ℕ) (after' : ℕ) → after' ≡ after → (ts : Trees B) → behind (count (move_trees g ts) - after') (move_trees g ts) ≡ move_trees g (behind (count ts - after) ts)
    left_parts after after' e ts = let m = count-map B D g ts in (λ j. behind (m j - e j) (move_trees g ts)) ∙ behind-map B D g (count ts - after) ts

    mutual
      pairs_in-map : (p : Tree A) (t : Tree B) → pairs_in role' dots' (move_tree f p) (move_tree g t) ≡ pairs (pairs_in role dots p t)
      pairs_in-map (name i o) t = ap (λ r. pair_of r (f.on i) (move_tree g t)) (same_role i) ∙ pair_of-map (role i) i t
      pairs_in-map (atom a o) t = refl
      pairs_in-map (list ps tail o) t =
          of_list-map
          (λ q. chosen (can_take dots ps tail q.0 q.1) (λ u. pairs_among role dots ps (pairs_behind role dots tail) q.0 q.1) (λ u. []))
          (λ q. chosen (can_take dots' (move_trees f ps) (move_tail f tail) q.0 q.1) (λ u. pairs_among role' dots' (move_trees f ps) (pairs_behind role' dots' (move_tail f tail)) q.0 q.1) (λ u. []))
          (λ q. chosen-map pairs (λ u. pairs_among role dots ps (pairs_behind role dots tail) q.0 q.1) (λ u. [])
          (λ u. pairs_among role' dots' (move_trees f ps) (pairs_behind role' dots' (move_tail f tail)) (move_trees g q.0) (move_tail g q.1)) (λ u. []) (can_take-map ps tail q.0 q.1)
          (pairs_among-map ps (pairs_behind role dots tail) (pairs_behind role' dots' (move_tail f tail)) (λ us end. pairs_behind-map tail us end) q.0 q.1) refl)
          t
      pairs_in-map (vector ps o) t =
          of_vector-map
          (λ us. chosen (can_take dots ps proper us proper) (λ u. pairs_among role dots ps no_pairs us proper) (λ u. []))
          (λ us. chosen (can_take dots' (move_trees f ps) proper us proper) (λ u. pairs_among role' dots' (move_trees f ps) no_pairs us proper) (λ u. []))
          (λ us. chosen-map pairs (λ u. pairs_among role dots ps no_pairs us proper) (λ u. [])
          (λ u. pairs_among role' dots' (move_trees f ps) no_pairs (move_trees g us) proper) (λ u. []) (can_take-map ps proper us proper)
          (pairs_among-map ps no_pairs no_pairs (λ vs end. refl) us proper) refl)
          t

      pairs_among-map : (ps : Trees A) (rest : Trees B → Tail B → List (A × B)) (rest' : Trees D → Tail D → List (C × D)) → Rest rest rest' → (ts : Trees B) (end : Tail B)
          → pairs_among role' dots' (move_trees f ps) rest' (move_trees g ts) (move_tail g end) ≡ pairs (pairs_among role dots ps rest ts end)
      pairs_among-map no_trees rest rest' h ts end = h ts end
      pairs_among-map (tree p no_trees) rest rest' h ts end =
          of_first-map (λ t us. pairs_in role dots p t ++ rest us end) (λ t us. pairs_in role' dots' (move_tree f p) t ++ rest' us (move_tail g end))
          (λ t us. append_map (pair_map f.on g.on) (pairs_in role dots p t) (rest us end) (pairs_in-map p t) (h us end)) ts
      pairs_among-map (tree p (tree d ps)) rest rest' h ts end =
          chosen-map pairs
          (λ u. pairs_each (λ t. pairs_in role dots p t) (front (count ts - count ps) ts) ++ pairs_among role dots ps rest (behind (count ts - count ps) ts) end)
          (λ u. of_first ts (λ t us. pairs_in role dots p t ++ pairs_among role dots (tree d ps) rest us end))
          (λ u. pairs_each (λ t. pairs_in role' dots' (move_tree f p) t) (front (count (move_trees g ts) - count (move_trees f ps)) (move_trees g ts)) ++ pairs_among role' dots' (move_trees f ps) rest' (behind (count (move_trees g ts) - count (move_trees f ps)) (move_trees g ts)) (move_tail g end))
          (λ u. of_first (move_trees g ts) (λ t us. pairs_in role' dots' (move_tree f p) t ++ pairs_among role' dots' (tree (move_tree f d) (move_trees f ps)) rest' us (move_tail g end)))
          (is_dots-map A C f dots dots' same_dots d)
          (append_map (pair_map f.on g.on) (pairs_each (λ t. pairs_in role dots p t) (front (count ts - count ps) ts)) (pairs_among role dots ps rest (behind (count ts - count ps) ts) end)
          (ap (pairs_each (λ t. pairs_in role' dots' (move_tree f p) t)) (taken_parts (count ps) (count (move_trees f ps)) (count-map A C f ps) ts)
          ∙ pairs_each-map (λ t. pairs_in role dots p t) (λ t. pairs_in role' dots' (move_tree f p) t) (λ t. pairs_in-map p t) (front (count ts - count ps) ts))
          (ap (λ us. pairs_among role' dots' (move_trees f ps) rest' us (move_tail g end)) (left_parts (count ps) (count (move_trees f ps)) (count-map A C f ps) ts)
          ∙ pairs_among-map ps rest rest' h (behind (count ts - count ps) ts) end))
          (of_first-map (λ t us. pairs_in role dots p t ++ pairs_among role dots (tree d ps) rest us end) (λ t us. pairs_in role' dots' (move_tree f p) t ++ pairs_among role' dots' (tree (move_tree f d) (move_trees f ps)) rest' us (move_tail g end))
          (λ t us. append_map (pair_map f.on g.on) (pairs_in role dots p t) (pairs_among role dots (tree d ps) rest us end) (pairs_in-map p t) (pairs_among-map (tree d ps) rest rest' h us end)) ts)

      pairs_behind-map : (tail : Tail A) (ts : Trees B) (end : Tail B) → pairs_behind role' dots' (move_tail f tail) (move_trees g ts) (move_tail g end) ≡ pairs (pairs_behind role dots tail ts end)
      pairs_behind-map proper ts end = refl
      pairs_behind-map (dotted p) ts end = ap (pairs_in role' dots' (move_tree f p)) (rest_of-map B D g none ts end) ∙ pairs_in-map p (rest_of ts end)

    pub compared-map : (rules : List (Rule A)) (ts : Trees B) (end : Tail B) → compared role' dots' (map (move_rule f) rules) (move_trees g ts) (move_tail g end) ≡ pairs (compared role dots rules ts end)
    compared-map [] ts end = refl
    compared-map (rule ∷ rules) ts end =
        append_map (pair_map f.on g.on)
        (chosen (can_take dots rule.parts rule.tail ts end) (λ u. pairs_among role dots rule.parts (pairs_behind role dots rule.tail) ts end) (λ u. [])) (compared role dots rules ts end)
        (chosen-map pairs (λ u. pairs_among role dots rule.parts (pairs_behind role dots rule.tail) ts end) (λ u. [])
        (λ u. pairs_among role' dots' (move_trees f rule.parts) (pairs_behind role' dots' (move_tail f rule.tail)) (move_trees g ts) (move_tail g end)) (λ u. []) (can_take-map rule.parts rule.tail ts end)
        (pairs_among-map rule.parts (pairs_behind role dots rule.tail) (pairs_behind role' dots' (move_tail f rule.tail)) (λ us e. pairs_behind-map rule.tail us e) ts end) refl)
        (compared-map rules ts end)
