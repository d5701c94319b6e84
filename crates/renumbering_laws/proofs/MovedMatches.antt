-- Matching commutes with changes of the rules and of the form under which rules tell their identifiers alike, and literals
-- mean the same.
use Rattle.std.proofs.Common.{◌≡◌, ℕ, ◌-◌, List, [], ◌∷◌, map, Bool, true, false, cond, Option, Some, None, refl, sym, ap, ◌∙◌, subst}
use Rattle.std.specs.Prelude.{nat_le}
use Rattle.scheme_model.specs.Trees.{Atom, Tree, name, atom, list, vector, Trees, no_trees, tree, Tail, proper, dotted}
use Rattle.scheme_model.specs.TreeParts.{count}
use Rattle.scheme_model.specs.ExpansionFaults.{named}
use Rattle.scheme_model.specs.RulesShape.{Rule, option_map, Role, IsLiteral, IsEllipsis, IsAny, IsVariable}
use Rattle.scheme_model.specs.Matching.{Value, One, Many, no_values, Binding, Match, match_of, both, Matcher, rest_of, front, behind, variable_name, names_in, names_among, names_behind, empty, place_before, spread, match_each, when, match_literal, match_name, match_atom, chosen, list_parts, vector_parts, first_part, at_end, taken, match_tree, match_parts, match_rest, Chosen, or_later, first_match}
use Rattle.scheme_model.proofs.RenamingLaws.{Finds, finds, some_map, map-append, append_map}
use Rattle.renumbering_laws.specs.Moving.{Change, move_named, move_rule, move_tail, move_tree, move_trees}
use Rattle.renumbering_laws.proofs.MovingSteps.{count-map}
use Rattle.renumbering_laws.proofs.MovedPatterns.{is_dots-map}
use Rattle.renumbering_laws.proofs.MovedComparisons.{with_end, rest_of-map, front-map, behind-map, list_parts-map, vector_parts-map}
use Rattle.renumbering_laws.proofs.MovedParts.{KeepsNone, move_binding, move_chosen, move_match, move_value}

pub chosen_finds : {X Y : Type 0} (h : X → Y) {t t' : Bool} (x y : Unit {0} → Option X) (x' y' : Unit {0} → Option Y) → t' ≡ t → Finds h (x tt) (x' tt) → Finds h (y tt) (y' tt) → Finds h (chosen t x y) (chosen t' x' y')
chosen_finds h {t} {t'} x y x' y' e hx hy = subst (λ (b : Bool). Finds h (chosen t x y) (chosen b x' y')) (sym e) (go t)
  where
    go : (b : Bool) → Finds h (chosen b x y) (chosen b x' y')
    go true = hx
    go false = hy

-- ---- variables of a pattern

module _ (A C : Type 0) (f : Change A C) (role : A → Role) (role' : C → Role) (same_role : (i : A) → role' (f.on i) ≡ role i) where
  variable_name-map : (r : Role) (i : A) → variable_name r (f.on i) ≡ map f.on (variable_name r i)
  variable_name-map IsLiteral i = refl
  variable_name-map IsEllipsis i = refl
  variable_name-map IsAny i = refl
  variable_name-map IsVariable i = refl

  mutual
    pub names_in-map : (p : Tree A) → names_in role' (move_tree f p) ≡ map f.on (names_in role p)
    names_in-map (name i o) = ap (λ r. variable_name r (f.on i)) (same_role i) ∙ variable_name-map (role i) i
    names_in-map (atom a o) = refl
    names_in-map (list ts tail o) = append_map f.on (names_among role ts) (names_behind role tail) (names_among-map ts) (names_behind-map tail)
    names_in-map (vector ts o) = names_among-map ts

    names_among-map : (ts : Trees A) → names_among role' (move_trees f ts) ≡ map f.on (names_among role ts)
    names_among-map no_trees = refl
    names_among-map (tree t ts) = append_map f.on (names_in role t) (names_among role ts) (names_in-map t) (names_among-map ts)

    names_behind-map : (tail : Tail A) → names_behind role' (move_tail f tail) ≡ map f.on (names_behind role tail)
    names_behind-map proper = refl
    names_behind-map (dotted t) = names_in-map t

-- ---- what a match gives

module _ (A B C D : Type 0) (f : Change A C) (g : Change B D) (none : KeepsNone g) where
  abbrev found : Match A B → Match C D
  found m = move_match f g m

  both-map : (m n : Match A B) → both (found m) (found n) ≡ found (both m n)
  both-map m n =
      let a = sym (map-append (move_binding f g) m.bindings n.bindings) in
      let b = sym (map-append (move_named g) m.met n.met) in
      λ j. match_of (a j) (b j)

  empty-map : (is : List A) → empty {B = D} (map f.on is) ≡ map (move_binding f g) (empty is)
  empty-map [] = refl
  empty-map (i ∷ is) = ap (λ (bs : List (Binding C D)). record { variable = f.on i; value = Many no_values } ∷ bs) (empty-map is)

  place_before-map : (v w : Value B) → place_before (move_value g v) (move_value g w) ≡ move_value g (place_before v w)
  place_before-map v (One t) = refl
  place_before-map v (Many vs) = refl

  spread-map : (bs cs : List (Binding A B)) → spread (map (move_binding f g) bs) (map (move_binding f g) cs) ≡ map (move_binding f g) (spread bs cs)
  spread-map [] cs = refl
  spread-map (b ∷ bs) [] = refl
  spread-map (b ∷ bs) (c ∷ cs) =
      let v = place_before-map b.value c.value in let ds = spread-map bs cs in
      λ j. record { variable = f.on b.variable; value = v j } ∷ ds j

  match_each-map : (k : Tree B → Option (Match A B)) (k' : Tree D → Option (Match C D)) → ((t : Tree B) → Finds found (k t) (k' (move_tree g t))) → (names : List A) (ts : Trees B)
      → Finds found (match_each k names ts) (match_each k' (map f.on names) (move_trees g ts))
  match_each-map k k' h names no_trees = finds (ap (λ (bs : List (Binding C D)). Some (match_of bs [])) (empty-map names))
  match_each-map k k' h names (tree t ts) =
      some_map _ (h t) (λ m. some_map _ (match_each-map k k' h names ts) (λ n.
      finds (let a = spread-map m.bindings n.bindings in let b = sym (map-append (move_named g) m.met n.met) in λ j. Some (match_of (a j) (b j)))))

  when-map : (m : Match A B) {b b' : Bool} → b' ≡ b → Finds found (when b m) (when b' (found m))
  when-map m {b} {b'} e = subst (λ (t : Bool). Finds found (when b m) (when t (found m))) (sym e) (go b)
    where
      go : (t : Bool) → Finds found (when t m) (when t (found m))
      go true = finds refl
      go false = finds refl

  match_atom-map : (a : Atom) (t : Tree B) → Finds found (match_atom a t) (match_atom a (move_tree g t))
  match_atom-map a (name j o) = finds refl
  match_atom-map a (atom b o) = when-map (match_of [] []) refl
  match_atom-map a (list us tail o) = finds refl
  match_atom-map a (vector us o) = finds refl

  at_end-map : (ts : Trees B) (end : Tail B) → Finds found (at_end ts end) (at_end (move_trees g ts) (move_tail g end))
  at_end-map no_trees proper = finds refl
  at_end-map no_trees (dotted t) = finds refl
  at_end-map (tree t ts) end = finds refl

  abbrev first_with : Tree B × Trees B → Tree D × Trees D
  first_with q = (move_tree g q.0, move_trees g q.1)

  first_part-map : (ts : Trees B) → Finds first_with (first_part ts) (first_part (move_trees g ts))
  first_part-map no_trees = finds refl
  first_part-map (tree t ts) = finds refl

  list_parts_found : (t : Tree B) → Finds (with_end B D g) (list_parts t) (list_parts (move_tree g t))
  list_parts_found t = finds (list_parts-map B D g t)

  vector_parts_found : (t : Tree B) → Finds (move_trees g) (vector_parts t) (vector_parts (move_tree g t))
  vector_parts_found t = finds (vector_parts-map B D g t)

  abbrev two_parts : Trees B × Trees B → Trees D × Trees D
  two_parts q = (move_trees g q.0, move_trees g q.1)

  taken-map : (after : ℕ) (ts : Trees B) {after' : ℕ} → after' ≡ after → Finds two_parts (taken after ts) (taken after' (move_trees g ts))
  taken-map after ts {after'} e =
      finds (let m = count-map B D g ts in
      (λ j. cond (nat_le (e j) (m j)) (Some (front (m j - e j) (move_trees g ts), behind (m j - e j) (move_trees g ts))) None) ∙ go (nat_le after (count ts)) (count ts - after))
    where
      go : (b : Bool) (n : ℕ) → cond b (Some (front n (move_trees g ts), behind n (move_trees g ts))) None ≡ option_map two_parts (cond b (Some (front n ts, behind n ts)) None)
      go true n = let a = front-map B D g n ts in let b = behind-map B D g n ts in λ j. Some (a j, b j)
      go false n = refl

  -- how both sides match alike
  pub record Alike (m : Matcher A B) (m' : Matcher C D) : Type 0 where
    pub role : (i : A) → m'.role (f.on i) ≡ m.role i
    pub dots : (i : A) → m'.dots (f.on i) ≡ m.dots i
    pub means : (i : A) (j : B) → m'.means_same (f.on i) (g.on j) ≡ m.means_same i j

  module _ (m : Matcher A B) (m' : Matcher C D) (alike : Alike m m') where
    match_literal-map : (i : A) (t : Tree B) → Finds found (match_literal m.means_same i t) (match_literal m'.means_same (f.on i) (move_tree g t))
    match_literal-map i (name j o) = when-map (match_of [] (named j o ∷ [])) (alike.means i j)
    match_literal-map i (atom b o) = finds refl
    match_literal-map i (list us tail o) = finds refl
    match_literal-map i (vector us o) = finds refl

    by_role : (r : Role) (i : A) (t : Tree B) → Finds found (match_name m.means_same r i t) (match_name m'.means_same r (f.on i) (move_tree g t))
    by_role IsLiteral i t = match_literal-map i t
    by_role IsEllipsis i t = finds refl
    by_role IsAny i t = finds refl
    by_role IsVariable i t = finds refl

    match_name-map : (i : A) (t : Tree B) → Finds found (match_name m.means_same (m.role i) i t) (match_name m'.means_same (m'.role (f.on i)) (f.on i) (move_tree g t))
    match_name-map i t = subst (λ (r : Role). Finds found (match_name m.means_same (m.role i) i t) (match_name m'.means_same r (f.on i) (move_tree g t))) (sym (alike.role i)) (by_role (m.role i) i t)

    -- what follows in the pattern
    abbrev Rest : (Trees B → Tail B → Option (Match A B)) → (Trees D → Tail D → Option (Match C D)) → Type 0
    Rest rest rest' = (ts : Trees B) (end : Tail B) → Finds found (rest ts end) (rest' (move_trees g ts) (move_tail g end))

    both_found : (a b : Match A B) → Finds found (Some (both a b)) (Some (both (found a) (found b)))
    both_found a b = finds (ap Some (both-map a b))

    -- the places of an ellipsis
    places_each : (p : Tree A) (ts : Trees B) → ((t : Tree B) → Finds found (match_tree m p t) (match_tree m' (move_tree f p) (move_tree g t)))
        → Finds found (match_each (λ t. match_tree m p t) (names_in m.role p) ts) (match_each (λ t. match_tree m' (move_tree f p) t) (names_in m'.role (move_tree f p)) (move_trees g ts))
    places_each p ts h =
        subst (λ (is : List C). Finds found (match_each (λ t. match_tree m p t) (names_in m.role p) ts) (match_each (λ t. match_tree m' (move_tree f p) t) is (move_trees g ts))) (sym (names_in-map A C f m.role m'.role alike.role p))
        (match_each-map (λ t. match_tree m p t) (λ t. match_tree m' (move_tree f p) t) h (names_in m.role p) ts)

    mutual
      match_tree-map : (p : Tree A) (t : Tree B) → Finds found (match_tree m p t) (match_tree m' (move_tree f p) (move_tree g t))
      match_tree-map (name i o) t = match_name-map i t
      match_tree-map (atom a o) t = match_atom-map a t
      match_tree-map (list ps tail o) t =
          some_map _ (list_parts_found t) (λ q. match_parts-map ps (match_rest m tail) (match_rest m' (move_tail f tail)) (λ us end. match_rest-map tail us end) q.0 q.1)
      match_tree-map (vector ps o) t = some_map _ (vector_parts_found t) (λ us. match_parts-map ps at_end at_end at_end-map us proper)

      pub match_parts-map : (ps : Trees A) (rest : Trees B → Tail B → Option (Match A B)) (rest' : Trees D → Tail D → Option (Match C D)) → Rest rest rest' → (ts : Trees B) (end : Tail B)
          → Finds found (match_parts m ps rest ts end) (match_parts m' (move_trees f ps) rest' (move_trees g ts) (move_tail g end))
      match_parts-map no_trees rest rest' h ts end = h ts end
      match_parts-map (tree p no_trees) rest rest' h ts end =
          some_map _ (first_part-map ts) (λ q. some_map _ (match_tree-map p q.0) (λ a. some_map _ (h q.1 end) (λ b. both_found a b)))
      match_parts-map (tree p (tree d ps)) rest rest' h ts end =
          chosen_finds found _ _ _ _ (is_dots-map A C f m.dots m'.dots alike.dots d)
          (some_map _ (taken-map (count ps) ts (count-map A C f ps)) (λ q. some_map _ (places_each p q.0 (λ t. match_tree-map p t)) (λ a. some_map _ (match_parts-map ps rest rest' h q.1 end) (λ b. both_found a b))))
          (some_map _ (first_part-map ts) (λ q. some_map _ (match_tree-map p q.0) (λ a. some_map _ (match_parts-map (tree d ps) rest rest' h q.1 end) (λ b. both_found a b))))

      match_rest-map : (tail : Tail A) (ts : Trees B) (end : Tail B) → Finds found (match_rest m tail ts end) (match_rest m' (move_tail f tail) (move_trees g ts) (move_tail g end))
      match_rest-map proper ts end = at_end-map ts end
      match_rest-map (dotted p) ts end =
          subst (λ (t : Tree D). Finds found (match_tree m p (rest_of ts end)) (match_tree m' (move_tree f p) t)) (sym (rest_of-map B D g none ts end)) (match_tree-map p (rest_of ts end))

    -- ---- rules

    later_map : (rule : Rule A) {o : Option (Match A B)} {o' : Option (Match C D)} → Finds found o o' → (later : Unit {0} → Option (Chosen A B)) (later' : Unit {0} → Option (Chosen C D)) → Finds (move_chosen f g) (later tt) (later' tt)
        → Finds (move_chosen f g) (or_later rule o later) (or_later (move_rule f rule) o' later')
    later_map rule {o} {o'} (finds e) later later' h = subst (λ (q : Option (Match C D)). Finds (move_chosen f g) (or_later rule o later) (or_later (move_rule f rule) q later')) (sym e) (go o)
      where
        go : (q : Option (Match A B)) → Finds (move_chosen f g) (or_later rule q later) (or_later (move_rule f rule) (option_map found q) later')
        go (Some x) = finds refl
        go None = h

    pub first_match-map : (rules : List (Rule A)) (ts : Trees B) (end : Tail B) → Finds (move_chosen f g) (first_match m rules ts end) (first_match m' (map (move_rule f) rules) (move_trees g ts) (move_tail g end))
    first_match-map [] ts end = finds refl
    first_match-map (rule ∷ rules) ts end =
        later_map rule (match_parts-map rule.parts (match_rest m rule.tail) (match_rest m' (move_tail f rule.tail)) (λ us e. match_rest-map rule.tail us e) ts end)
        (λ u. first_match m rules ts end) (λ u. first_match m' (map (move_rule f) rules) (move_trees g ts) (move_tail g end)) (first_match-map rules ts end)
