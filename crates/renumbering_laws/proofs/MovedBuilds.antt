-- Building an instance of a template commutes with changes of the template and of what its variables stand for.
use Rattle.std.proofs.Common.{◌≡◌, ℕ, zero, suc, ◌+◌, List, [], ◌∷◌, map, Bool, Option, Some, None, refl, sym, ap, ◌∙◌, subst}
use Rattle.std.specs.Prelude.{◌||◌, ◌&&◌, nat_le, is_some}
use Rattle.scheme_model.specs.declared.Occ.{Occ}
use Rattle.scheme_model.specs.Trees.{Tree, name, atom, list, vector, Trees, no_trees, tree, Tail, proper, dotted}
use Rattle.scheme_model.specs.RulesShape.{Names, Rules, option_map, dots_of, leading, escape_of, nowhere}
use Rattle.scheme_model.specs.Matching.{Value, One, Many, Values, no_values, value, Binding, ◌>>=◌}
use Rattle.scheme_model.specs.Building.{Built, built, value_of, stands_in, stands_among, stands_behind, used_in, value_count, agree, agree_with, places_of, first_value, later_values, first_place, later_places, or_zero, joined, at_places, repeated, named_value, list_built, is_escape, Template, build_tree, build_parts, build_tail, build_escaped, max_nodes, max_depth, within, or_lengths, build}
use Rattle.scheme_model.specs.Renaming.{built_map}
use Rattle.scheme_model.proofs.RenamingLaws.{Finds, finds, some_map, cond_map}
use Rattle.renumbering_laws.specs.Moving.{Change, move_rules, move_tail, move_tree, move_trees}
use Rattle.renumbering_laws.proofs.MovingSteps.{Reads, reads, then_map, cond_reads, append-map, size-map, depth-map}
use Rattle.renumbering_laws.proofs.MovedPatterns.{is_dots-map, leading-map, escape_of-map}
use Rattle.renumbering_laws.proofs.MovedRules.{dots_of-map}
use Rattle.renumbering_laws.proofs.MovedMatches.{chosen_finds}
use Rattle.renumbering_laws.proofs.MovedParts.{KeepsNone, Moves, move_binding, move_value, move_values}

abbrev itself : {X : Type 0} → X → X
itself x = x

same_found : {X : Type 0} {r r' : Option X} → r' ≡ r → Finds itself r r'
same_found {X} {r} {r'} e = subst (λ (q : Option X). Finds itself r q) (sym e) (go r)
  where
    go : (q : Option X) → Finds itself q q
    go None = finds refl
    go (Some x) = finds refl

-- ---- variables of a template

module _ (A C : Type 0) (f : Change A C) (same : A → A → Bool) (same' : C → C → Bool) (told : (i j : A) → same' (f.on i) (f.on j) ≡ same i j) where
  mutual
    stands_in-map : (i : A) (t : Tree A) → stands_in same' (f.on i) (move_tree f t) ≡ stands_in same i t
    stands_in-map i (name j o) = told i j
    stands_in-map i (atom a o) = refl
    stands_in-map i (list ts tail o) = let a = stands_among-map i ts in let b = stands_behind-map i tail in λ j. a j || b j
    stands_in-map i (vector ts o) = stands_among-map i ts

    stands_among-map : (i : A) (ts : Trees A) → stands_among same' (f.on i) (move_trees f ts) ≡ stands_among same i ts
    stands_among-map i no_trees = refl
    stands_among-map i (tree t ts) = let a = stands_in-map i t in let b = stands_among-map i ts in λ j. a j || b j

    stands_behind-map : (i : A) (tail : Tail A) → stands_behind same' (f.on i) (move_tail f tail) ≡ stands_behind same i tail
    stands_behind-map i proper = refl
    stands_behind-map i (dotted t) = stands_in-map i t

pub is_escape-map : (A C : Type 0) (f : Change A C) (dots : A → Bool) (dots' : C → Bool) → ((i : A) → dots' (f.on i) ≡ dots i) → (ts : Trees A) (tail : Tail A) → is_escape dots' (move_trees f ts) (move_tail f tail) ≡ is_escape dots ts tail
is_escape-map A C f dots dots' h ts tail = ap is_some (escape_of-map A C f dots dots' h ts tail) ∙ go (escape_of dots ts tail)
  where
    go : (o : Option (Tree A)) → is_some (option_map (move_tree f) o) ≡ is_some o
    go None = refl
    go (Some t) = refl

-- ---- bindings, and the places of an ellipsis

module _ (A B C D : Type 0) (f : Change A C) (g : Change B D) (none : KeepsNone g) (same_at : (o : Option Occ) → f.at o ≡ g.at o) where
  abbrev renamed : List (Binding A B) → List (Binding C D)
  renamed bs = map (move_binding f g) bs

  abbrev tree_built : Built (Tree B) → Built (Tree D)
  tree_built b = built_map (move_tree g) b

  abbrev trees_built : Built (Trees B) → Built (Trees D)
  trees_built b = built_map (move_trees g) b

  value_count-map : (vs : Values B) → value_count (move_values g vs) ≡ value_count vs
  value_count-map no_values = refl
  value_count-map (value v vs) = ap suc (value_count-map vs)

  agree_with-map : (n : Option ℕ) (v : Value B) → agree_with n (move_value g v) ≡ agree_with n v
  agree_with-map n (One t) = refl
  agree_with-map n (Many vs) = ap (agree n) (value_count-map vs)

  places_of-map : (n : Option ℕ) (bs : List (Binding A B)) → places_of n (renamed bs) ≡ places_of n bs
  places_of-map n [] = refl
  places_of-map n (b ∷ bs) = let a = agree_with-map n b.value in λ j. a j >>= (λ (m : Option ℕ). places_of-map m bs j)

  first_value-map : (v : Value B) → first_value (move_value g v) ≡ move_value g (first_value v)
  first_value-map (One t) = refl
  first_value-map (Many no_values) = refl
  first_value-map (Many (value v vs)) = refl

  later_values-map : (v : Value B) → later_values (move_value g v) ≡ move_value g (later_values v)
  later_values-map (One t) = refl
  later_values-map (Many no_values) = refl
  later_values-map (Many (value v vs)) = refl

  first_place-map : (bs : List (Binding A B)) → first_place (renamed bs) ≡ renamed (first_place bs)
  first_place-map [] = refl
  first_place-map (b ∷ bs) = let v = first_value-map b.value in let cs = first_place-map bs in λ j. record { variable = f.on b.variable; value = v j } ∷ cs j

  later_places-map : (bs : List (Binding A B)) → later_places (renamed bs) ≡ renamed (later_places bs)
  later_places-map [] = refl
  later_places-map (b ∷ bs) = let v = later_values-map b.value in let cs = later_places-map bs in λ j. record { variable = f.on b.variable; value = v j } ∷ cs j

  joined-map : (a b : Built (Trees B)) → joined (trees_built a) (trees_built b) ≡ trees_built (joined a b)
  joined-map a b = ap (λ (ts : Trees D). built ts (a.count + b.count)) (append-map B D g a.value b.value)

  joined_found : (a b : Built (Trees B)) → Finds trees_built (Some (joined a b)) (Some (joined (trees_built a) (trees_built b)))
  joined_found a b = finds (ap Some (joined-map a b))

  at_places-map : (k : List (Binding A B) → Option (Built (Trees B))) (k' : List (Binding C D) → Option (Built (Trees D))) → ((bs : List (Binding A B)) → Finds trees_built (k bs) (k' (renamed bs)))
      → (n : ℕ) (bs : List (Binding A B)) → Finds trees_built (at_places k n bs) (at_places k' n (renamed bs))
  at_places-map k k' h zero bs = finds refl
  at_places-map k k' h (suc n) bs =
      some_map _ (subst (λ (cs : List (Binding C D)). Finds trees_built (k (first_place bs)) (k' cs)) (sym (first_place-map bs)) (h (first_place bs))) (λ a.
      some_map _ (subst (λ (cs : List (Binding C D)). Finds trees_built (at_places k n (later_places bs)) (at_places k' n cs)) (sym (later_places-map bs)) (at_places-map k k' h n (later_places bs))) (λ b.
      joined_found a b))

  repeated-map : (n : ℕ) (k : List (Binding A B) → Option (Built (Tree B))) (k' : List (Binding C D) → Option (Built (Tree D))) → ((bs : List (Binding A B)) → Finds tree_built (k bs) (k' (renamed bs)))
      → (bs : List (Binding A B)) → Finds trees_built (repeated n k bs) (repeated n k' (renamed bs))
  repeated-map zero k k' h bs = some_map _ (h bs) (λ b. finds refl)
  repeated-map (suc n) k k' h bs =
      some_map _ (same_found (places_of-map None bs)) (λ m. at_places-map (repeated n k) (repeated n k') (λ cs. repeated-map n k k' h cs) (or_zero m) bs)

  -- ---- lists that are built

  two_built : (ts : Trees B) (n : ℕ) (u : Tree B) (m : ℕ) → list_built (built (move_trees g ts) n) (Some (built (move_tree g u) m)) ≡ tree_built (list_built (built ts n) (Some (built u m)))
  two_built no_trees n u m = refl
  two_built (tree t ts) n (name i o) m = ap (λ p. built (list (move_trees g (tree t ts)) (dotted (move_tree g (name i o))) p) (n + m + 1)) (sym none)
  two_built (tree t ts) n (atom a o) m = ap (λ p. built (list (move_trees g (tree t ts)) (dotted (move_tree g (atom a o))) p) (n + m + 1)) (sym none)
  two_built (tree t ts) n (list us end o) m = (let a = append-map B D g (tree t ts) us in let b = sym none in λ j. built (list (a j) (move_tail g end) (b j)) (n + m + 1))
  two_built (tree t ts) n (vector us o) m = ap (λ p. built (list (move_trees g (tree t ts)) (dotted (move_tree g (vector us o))) p) (n + m + 1)) (sym none)

  list_built-map : (parts : Built (Trees B)) (o : Option (Built (Tree B))) → list_built (trees_built parts) (option_map tree_built o) ≡ tree_built (list_built parts o)
  list_built-map parts None = ap (λ p. built (list (move_trees g parts.value) proper p) (parts.count + 1)) (sym none)
  list_built-map parts (Some b) = two_built parts.value parts.count b.value b.count

  -- ---- templates

  module _ (m : Template A B) (m' : Template C D) (told : (i j : A) → m'.same (f.on i) (f.on j) ≡ m.same i j) (inserts : (i : A) → m'.insert (f.on i) ≡ g.on (m.insert i)) where
    value_of-map : (bs : List (Binding A B)) (i : A) → value_of m'.same (renamed bs) (f.on i) ≡ option_map (move_value g) (value_of m.same bs i)
    value_of-map [] i = refl
    value_of-map (b ∷ bs) i = cond_map (option_map (move_value g)) (Some b.value) (value_of m.same bs i) (told b.variable i) refl (value_of-map bs i)

    used_in-map : (t : Tree A) (bs : List (Binding A B)) → used_in m'.same (move_tree f t) (renamed bs) ≡ renamed (used_in m.same t bs)
    used_in-map t [] = refl
    used_in-map t (b ∷ bs) =
        let rest = used_in-map t bs in
        cond_map renamed (b ∷ used_in m.same t bs) (used_in m.same t bs) (stands_in-map A C f m.same m'.same told b.variable t) (ap (λ (cs : List (Binding C D)). move_binding f g b ∷ cs) rest) rest

    named_value-map : (i : A) (o : Option Occ) (v : Option (Value B)) → named_value m'.insert (f.on i) (f.at o) (option_map (move_value g) v) ≡ move_tree g (named_value m.insert i o v)
    named_value-map i o None = (let a = inserts i in let b = same_at o in λ j. name (a j) (b j))
    named_value-map i o (Some (Many vs)) = (let a = inserts i in let b = same_at o in λ j. name (a j) (b j))
    named_value-map i o (Some (One t)) = refl

    leaf_built : (i : A) (o : Option Occ) (bs : List (Binding A B)) → named_value m'.insert (f.on i) (f.at o) (value_of m'.same (renamed bs) (f.on i)) ≡ move_tree g (named_value m.insert i o (value_of m.same bs i))
    leaf_built i o bs = ap (named_value m'.insert (f.on i) (f.at o)) (value_of-map bs i) ∙ named_value-map i o (value_of m.same bs i)

    -- a part, and how often it stands
    repeats : (dots : A → Bool) (dots' : C → Bool) → ((i : A) → dots' (f.on i) ≡ dots i) → (t : Tree A) (ts : Trees A) (bs : List (Binding A B))
        → ((cs : List (Binding A B)) → Finds tree_built (build_tree m dots t cs) (build_tree m' dots' (move_tree f t) (renamed cs)))
        → Finds trees_built (repeated (leading dots ts) (λ cs. build_tree m dots t cs) (used_in m.same t bs)) (repeated (leading dots' (move_trees f ts)) (λ cs. build_tree m' dots' (move_tree f t) cs) (used_in m'.same (move_tree f t) (renamed bs)))
    repeats dots dots' h t ts bs e =
        subst (λ (n : ℕ). Finds trees_built (repeated (leading dots ts) (λ cs. build_tree m dots t cs) (used_in m.same t bs)) (repeated n (λ cs. build_tree m' dots' (move_tree f t) cs) (used_in m'.same (move_tree f t) (renamed bs)))) (sym (leading-map A C f dots dots' h ts))
        (subst (λ (cs : List (Binding C D)). Finds trees_built (repeated (leading dots ts) (λ cs. build_tree m dots t cs) (used_in m.same t bs)) (repeated (leading dots ts) (λ cs. build_tree m' dots' (move_tree f t) cs) cs)) (sym (used_in-map t bs))
        (repeated-map (leading dots ts) (λ cs. build_tree m dots t cs) (λ cs. build_tree m' dots' (move_tree f t) cs) e (used_in m.same t bs)))

    mutual
      pub build_tree-map : (dots : A → Bool) (dots' : C → Bool) → ((i : A) → dots' (f.on i) ≡ dots i) → (t : Tree A) (bs : List (Binding A B)) → Finds tree_built (build_tree m dots t bs) (build_tree m' dots' (move_tree f t) (renamed bs))
      build_tree-map dots dots' h (name i o) bs = finds (ap (λ (t : Tree D). Some (built t 1)) (leaf_built i o bs))
      build_tree-map dots dots' h (atom a o) bs = finds (ap (λ p. Some (built (atom a p) 1)) (sym none))
      build_tree-map dots dots' h (vector ts o) bs = some_map _ (build_parts-map dots dots' h ts bs) (λ ps. finds (ap (λ p. Some (built (vector (move_trees g ps.value) p) (ps.count + 1))) (sym none)))
      build_tree-map dots dots' h (list ts tail o) bs =
          chosen_finds tree_built _ _ _ _ (is_escape-map A C f dots dots' h ts tail) (build_escaped-map ts bs)
          (some_map _ (build_parts-map dots dots' h ts bs) (λ ps. some_map _ (build_tail-map dots dots' h tail bs) (λ t. finds (ap Some (list_built-map ps t)))))

      build_parts-map : (dots : A → Bool) (dots' : C → Bool) → ((i : A) → dots' (f.on i) ≡ dots i) → (ts : Trees A) (bs : List (Binding A B)) → Finds trees_built (build_parts m dots ts bs) (build_parts m' dots' (move_trees f ts) (renamed bs))
      build_parts-map dots dots' h no_trees bs = finds refl
      build_parts-map dots dots' h (tree t ts) bs =
          chosen_finds trees_built _ _ _ _ (is_dots-map A C f dots dots' h t) (build_parts-map dots dots' h ts bs)
          (some_map _ (repeats dots dots' h t ts bs (λ cs. build_tree-map dots dots' h t cs)) (λ a. some_map _ (build_parts-map dots dots' h ts bs) (λ b. joined_found a b)))

      build_tail-map : (dots : A → Bool) (dots' : C → Bool) → ((i : A) → dots' (f.on i) ≡ dots i) → (tail : Tail A) (bs : List (Binding A B)) → Finds (option_map tree_built) (build_tail m dots tail bs) (build_tail m' dots' (move_tail f tail) (renamed bs))
      build_tail-map dots dots' h proper bs = finds refl
      build_tail-map dots dots' h (dotted t) bs = some_map _ (build_tree-map dots dots' h t bs) (λ b. finds refl)

      build_escaped-map : (ts : Trees A) (bs : List (Binding A B)) → Finds tree_built (build_escaped m ts bs) (build_escaped m' (move_trees f ts) (renamed bs))
      build_escaped-map no_trees bs = finds refl
      build_escaped-map (tree t no_trees) bs = finds refl
      build_escaped-map (tree t (tree u us)) bs = build_tree-map nowhere nowhere (λ i. refl) u bs

  -- the faults of building name no identifier, so those of both sides may be over any
  module _ (F G : Type 0) (e : Change F G) where
    within-map : (left : ℕ) (b : Built (Tree B)) → Reads e tree_built (within left b) (within left (tree_built b))
    within-map left b =
        let n = size-map B D g b.value in
        cond_reads (λ j. nat_le b.count left && nat_le (n j) max_nodes) (cond_reads (ap (λ d. nat_le d max_depth) (depth-map B D g b.value)) (reads refl) (reads refl)) (reads refl)

    lengths : {X Y : Type 0} (h : X → Y) (o : Option X) {o' : Option Y} → Finds h o o' → Reads e h (or_lengths o) (or_lengths o')
    lengths {X} {Y} h o {o'} (finds d) = subst (λ (q : Option Y). Reads e h (or_lengths o) (or_lengths q)) (sym d) (go o)
      where
        go : (q : Option X) → Reads e h (or_lengths q) (or_lengths (option_map h q))
        go None = reads refl
        go (Some x) = reads refl

    pub build-map : (n : Names A) (n' : Names C) (told : Moves f n n') (r : Rules A) (insert : A → B) (insert' : C → D) → ((i : A) → insert' (f.on i) ≡ g.on (insert i)) → (t : Tree A) (bs : List (Binding A B)) (left : ℕ)
        → Reads e tree_built (build n r insert t bs left) (build n' (move_rules f r) insert' (move_tree f t) (renamed bs) left)
    build-map n n' told r insert insert' h t bs left =
        then_map _
        (lengths tree_built (build_tree (record { same = n.same; insert = insert }) (dots_of n r) t bs)
        (build_tree-map (record { same = n.same; insert = insert }) (record { same = n'.same; insert = insert' }) told.same h (dots_of n r) (dots_of n' (move_rules f r)) (dots_of-map A C f n n' told r) t bs))
        (λ b. within-map left b)
