-- What numbers stand for: one tree at most, and the same tree as long as nodes and names stay.
use Rattle.std.proofs.Common.{◌≡◌, ℕ, List, [], ◌∷◌, slice_get, Option, Some, None, refl, sym, ap, ◌∙◌, subst}
use Rattle.std.specs.Prelude.{IsSome}
use Rattle.std.specs.List.{AllByRecursion}
use Rattle.std.specs.Option.{option_map}
use Rattle.std.specs.FinMap as map
use Rattle.std.proofs.lemmas.Option.{same_Some}
use Rattle.scheme_model.specs.declared.Occ.{Occ}
use Rattle.scheme_model.specs.Trees.{Numeral, Quoted, Character, Boolean, Bytes, Tree, name, atom, list, vector, Trees, no_trees, tree, Tail, proper, dotted}
use Rattle.scheme_model.specs.Ident.{Ident as Identifier}
use Rattle.syntax_tree.specs.Names.{Names, KeepsNames}
use Rattle.syntax_tree.specs.Nodes.{Shape, leaf_shape, list_shape, vector_shape, parts_of, Lived, Nodes, shape_at, KeepsNodes}
use Rattle.syntax_tree.specs.Standing.{leaf_tree, LeafStands, Stands, AllStand, TailStands, IsNode}
use Rattle.syntax_tree.specs.declared.trees.nodes.Leaf.{Leaf}
use Rattle.syntax_tree.specs.declared.trees.nodes.Leaf.TheVariants as code
use Rattle.syntax_tree.proofs.Places.{none_some}
use Rattle.syntax_tree.proofs.NodeLaws.{map_some}

-- ---- nodes and numbers

-- what stands has a node
pub node_there : (nodes : Nodes) (names : Names) (t : Tree Identifier) (n : ℕ) → Stands nodes names t n →
    (s : Shape) × (shape_at nodes n ≡ Some s) × IsNode nodes names s t
node_there nodes names (name i o) n h = (leaf_shape h.0 h.1, h.2, h.3)
node_there nodes names (atom a o) n h = (leaf_shape h.0 h.1, h.2, h.3)
node_there nodes names (list ts tail o) n h = (list_shape h.0 h.1 o, h.2, (ts, tail, refl, h.3, h.4))
node_there nodes names (vector ts o) n h = (vector_shape h.0 o, h.1, (ts, refl, h.2))

-- a leaf is no list and no vector
abbrev pub IsLeafy : Tree Identifier → Type 0
IsLeafy (name i o) = Unit {0}
IsLeafy (atom a o) = Unit {0}
IsLeafy (list ts tail o) = ⊥
IsLeafy (vector ts o) = ⊥

pub leafy : (names : Names) (leaf : Leaf) (o : Option Occ) (t : Tree Identifier) → leaf_tree names leaf o ≡ Some t → IsLeafy t
leafy names (code.Name i) o t h = let p = map_some (λ (j : Identifier). name j o) (slice_get names.idents i) t h in subst IsLeafy p.2 tt
leafy names (code.Numeral k) o t h = let p = map_some (λ (s : List ℕ). atom (Numeral s) o) (slice_get names.symbols k) t h in subst IsLeafy p.2 tt
leafy names (code.Quoted k) o t h = let p = map_some (λ (s : List ℕ). atom (Quoted s) o) (slice_get names.symbols k) t h in subst IsLeafy p.2 tt
leafy names (code.Char c) o t h = subst IsLeafy (same_Some (atom (Character c) o) t h) tt
leafy names (code.Bool b) o t h = subst IsLeafy (same_Some (atom (Boolean b) o) t h) tt
leafy names (code.Bytes k) o t h = let p = map_some (λ (s : List ℕ). atom (Bytes s) o) (slice_get names.symbols k) t h in subst IsLeafy p.2 tt

leaf_there : (nodes : Nodes) (names : Names) (leaf : Leaf) (o : Option Occ) (t : Tree Identifier) (n : ℕ) → shape_at nodes n ≡ Some (leaf_shape leaf o) →
    leaf_tree names leaf o ≡ Some t → IsLeafy t → Stands nodes names t n
leaf_there nodes names leaf o (name i p) n at h l = (leaf, o, at, h)
leaf_there nodes names leaf o (atom a p) n at h l = (leaf, o, at, h)
leaf_there nodes names leaf o (list ts tail p) n at h l = absurd l
leaf_there nodes names leaf o (vector ts p) n at h l = absurd l

-- a node that lives at a number makes the number stand
pub node_stands : (nodes : Nodes) (names : Names) (s : Shape) (t : Tree Identifier) (n : ℕ) → shape_at nodes n ≡ Some s → IsNode nodes names s t → Stands nodes names t n
node_stands nodes names (leaf_shape leaf o) t n at h = leaf_there nodes names leaf o t n at h (leafy names leaf o t h)
node_stands nodes names (list_shape items end o) t n at h =
    subst (λ (u : Tree Identifier). Stands nodes names u n) (sym h.2) (items, end, at, h.3, h.4)
node_stands nodes names (vector_shape items o) t n at h =
    subst (λ (u : Tree Identifier). Stands nodes names u n) (sym h.1) (items, at, h.2)

-- ---- what stood before still stands

map_kept : {A B : Type 0} (f : A → B) (o p : Option A) (y : B) → ((x : A) → o ≡ Some x → p ≡ Some x) → option_map f o ≡ Some y → option_map f p ≡ Some y
map_kept f None p y keeps h = none_some y h
map_kept f (Some x) p y keeps h = ap (option_map f) (keeps x refl) ∙ h

pub leaf_kept : (names names' : Names) → KeepsNames names names' → (leaf : Leaf) (o : Option Occ) (t : Tree Identifier) → leaf_tree names leaf o ≡ Some t → leaf_tree names' leaf o ≡ Some t
leaf_kept names names' keeps (code.Name i) o t h = map_kept (λ (j : Identifier). name j o) (slice_get names.idents i) (slice_get names'.idents i) t (keeps.idents i) h
leaf_kept names names' keeps (code.Numeral k) o t h = map_kept (λ (s : List ℕ). atom (Numeral s) o) (slice_get names.symbols k) (slice_get names'.symbols k) t (keeps.symbols k) h
leaf_kept names names' keeps (code.Quoted k) o t h = map_kept (λ (s : List ℕ). atom (Quoted s) o) (slice_get names.symbols k) (slice_get names'.symbols k) t (keeps.symbols k) h
leaf_kept names names' keeps (code.Char c) o t h = h
leaf_kept names names' keeps (code.Bool b) o t h = h
leaf_kept names names' keeps (code.Bytes k) o t h = map_kept (λ (s : List ℕ). atom (Bytes s) o) (slice_get names.symbols k) (slice_get names'.symbols k) t (keeps.symbols k) h

pub shape_kept : (old new : Nodes) → KeepsNodes old new → (n : ℕ) (s : Shape) → shape_at old n ≡ Some s → shape_at new n ≡ Some s
shape_kept old new keeps n s h =
    let p = map_some (λ (l : Lived). l.node) (map.get old n) s h in
    ap (option_map (λ (l : Lived). l.node)) (keeps n p.0 p.1) ∙ ap Some p.2

module _ (old new : Nodes) (names names' : Names) (stay : KeepsNodes old new) (keeps : KeepsNames names names') where
  mutual
    pub stands_kept : (t : Tree Identifier) (n : ℕ) → Stands old names t n → Stands new names' t n
    stands_kept (name i o) n h = (h.0, h.1, shape_kept old new stay n (leaf_shape h.0 h.1) h.2, leaf_kept names names' keeps h.0 h.1 (name i o) h.3)
    stands_kept (atom a o) n h = (h.0, h.1, shape_kept old new stay n (leaf_shape h.0 h.1) h.2, leaf_kept names names' keeps h.0 h.1 (atom a o) h.3)
    stands_kept (list ts tail o) n h = (h.0, h.1, shape_kept old new stay n (list_shape h.0 h.1 o) h.2, all_kept ts h.0 h.3, tail_kept tail h.1 h.4)
    stands_kept (vector ts o) n h = (h.0, shape_kept old new stay n (vector_shape h.0 o) h.1, all_kept ts h.0 h.2)

    pub all_kept : (ts : Trees Identifier) (ns : List ℕ) → AllStand old names ts ns → AllStand new names' ts ns
    all_kept no_trees [] h = tt
    all_kept no_trees (n ∷ ns) h = h
    all_kept (tree t ts) [] h = h
    all_kept (tree t ts) (n ∷ ns) h = (stands_kept t n h.0, all_kept ts ns h.1)

    pub tail_kept : (tail : Tail Identifier) (end : Option ℕ) → TailStands old names tail end → TailStands new names' tail end
    tail_kept proper None h = tt
    tail_kept proper (Some n) h = h
    tail_kept (dotted t) None h = h
    tail_kept (dotted t) (Some n) h = (h.0, stands_kept t n h.1)

  pub node_kept : (s : Shape) (t : Tree Identifier) → IsNode old names s t → IsNode new names' s t
  node_kept (leaf_shape leaf o) t h = leaf_kept names names' keeps leaf o t h
  node_kept (list_shape items end o) t h = (h.0, h.1, h.2, all_kept h.0 items h.3, tail_kept h.1 end h.4)
  node_kept (vector_shape items o) t h = (h.0, h.1, all_kept h.0 items h.2)

-- ---- what stood and is left still stands

module _ (old new : Nodes) (names : Names) (was : (n : ℕ) (l : Lived) → map.get new n ≡ Some l → map.get old n ≡ Some l)
    (left : (n : ℕ) (l : Lived) → map.get new n ≡ Some l → AllByRecursion (λ p. IsSome (map.get new p)) (parts_of l.node)) where
  -- a node that is left, with its parts
  shape_left : (n : ℕ) (s : Shape) → shape_at old n ≡ Some s → IsSome (map.get new n) → (shape_at new n ≡ Some s) × AllByRecursion (λ p. IsSome (map.get new p)) (parts_of s)
  shape_left n s h live = by_node (map.get new n) refl live
    where
      by_node : (o : Option Lived) → map.get new n ≡ o → IsSome o → (shape_at new n ≡ Some s) × AllByRecursion (λ p. IsSome (map.get new p)) (parts_of s)
      by_node None e is = absurd cc
      by_node (Some l) e is =
          let same : l.node ≡ s = same_Some l.node s (sym (ap (option_map (λ (x : Lived). x.node)) (was n l e)) ∙ h) in
          (ap (option_map (λ (x : Lived). x.node)) e ∙ ap Some same, subst (λ (x : Shape). AllByRecursion (λ p. IsSome (map.get new p)) (parts_of x)) same (left n l e))

  items_left : (items : List ℕ) (end : Option ℕ) (o : Option Occ) → AllByRecursion (λ p. IsSome (map.get new p)) (parts_of (list_shape items end o)) → AllByRecursion (λ p. IsSome (map.get new p)) items
  items_left items None o h = h
  items_left items (Some n) o h = h.1

  end_left : (items : List ℕ) (end : Option ℕ) (o : Option Occ) → AllByRecursion (λ p. IsSome (map.get new p)) (parts_of (list_shape items end o)) → (n : ℕ) → end ≡ Some n → IsSome (map.get new n)
  end_left items None o h n e = none_some n e
  end_left items (Some m) o h n e = subst (λ (k : ℕ). IsSome (map.get new k)) (same_Some m n e) h.0

  mutual
    pub stands_left : (t : Tree Identifier) (n : ℕ) → Stands old names t n → IsSome (map.get new n) → Stands new names t n
    stands_left (name i o) n h live = (h.0, h.1, (shape_left n (leaf_shape h.0 h.1) h.2 live).0, h.3)
    stands_left (atom a o) n h live = (h.0, h.1, (shape_left n (leaf_shape h.0 h.1) h.2 live).0, h.3)
    stands_left (list ts tail o) n h live =
        let p = shape_left n (list_shape h.0 h.1 o) h.2 live in
        (h.0, h.1, p.0, all_left ts h.0 h.3 (items_left h.0 h.1 o p.1), tail_left tail h.1 h.4 (end_left h.0 h.1 o p.1))
    stands_left (vector ts o) n h live =
        let p = shape_left n (vector_shape h.0 o) h.1 live in
        (h.0, p.0, all_left ts h.0 h.2 p.1)

    all_left : (ts : Trees Identifier) (ns : List ℕ) → AllStand old names ts ns → AllByRecursion (λ p. IsSome (map.get new p)) ns → AllStand new names ts ns
    all_left no_trees [] h live = tt
    all_left no_trees (n ∷ ns) h live = h
    all_left (tree t ts) [] h live = h
    all_left (tree t ts) (n ∷ ns) h live = (stands_left t n h.0 live.0, all_left ts ns h.1 live.1)

    tail_left : (tail : Tail Identifier) (end : Option ℕ) → TailStands old names tail end → ((n : ℕ) → end ≡ Some n → IsSome (map.get new n)) → TailStands new names tail end
    tail_left proper None h live = tt
    tail_left proper (Some n) h live = h
    tail_left (dotted t) None h live = h
    tail_left (dotted t) (Some n) h live = (h.0, stands_left t n h.1 (live n refl))

pub names_itself : (names : Names) → KeepsNames names names
names_itself names = record { symbols = λ n s h. h; idents = λ n i h. h }

pub nodes_itself : (nodes : Nodes) → KeepsNodes nodes nodes
nodes_itself nodes n l h = h

-- ---- one tree at most

module _ (nodes : Nodes) (names : Names) where
  same_node : {P : Type 0} (n : ℕ) (s u : Shape) → shape_at nodes n ≡ Some s → shape_at nodes n ≡ Some u → (s ≡ u → P) → P
  same_node n s u p q k = k (same_Some s u (sym p ∙ q))

  leaf_once : (t u : Tree Identifier) (n : ℕ) → LeafStands nodes names t n → LeafStands nodes names u n → t ≡ u
  leaf_once t u n p q =
      let same : leaf_shape p.0 p.1 ≡ leaf_shape q.0 q.1 = same_Some (leaf_shape p.0 p.1) (leaf_shape q.0 q.1) (sym p.2 ∙ q.2) in
      let leaf : p.0 ≡ q.0 = cc in
      let place : p.1 ≡ q.1 = cc in
      same_Some t u (sym p.3 ∙ (λ j. leaf_tree names (leaf j) (place j)) ∙ q.3)

  mutual
    pub stands_once : (t u : Tree Identifier) (n : ℕ) → Stands nodes names t n → Stands nodes names u n → t ≡ u
    stands_once (name i o) (name j p) n g h = leaf_once (name i o) (name j p) n g h
    stands_once (name i o) (atom b p) n g h = leaf_once (name i o) (atom b p) n g h
    stands_once (name i o) (list us tail p) n g h = same_node n (leaf_shape g.0 g.1) (list_shape h.0 h.1 p) g.2 h.2 (λ e. absurd cc)
    stands_once (name i o) (vector us p) n g h = same_node n (leaf_shape g.0 g.1) (vector_shape h.0 p) g.2 h.1 (λ e. absurd cc)
    stands_once (atom a o) (name j p) n g h = leaf_once (atom a o) (name j p) n g h
    stands_once (atom a o) (atom b p) n g h = leaf_once (atom a o) (atom b p) n g h
    stands_once (atom a o) (list us tail p) n g h = same_node n (leaf_shape g.0 g.1) (list_shape h.0 h.1 p) g.2 h.2 (λ e. absurd cc)
    stands_once (atom a o) (vector us p) n g h = same_node n (leaf_shape g.0 g.1) (vector_shape h.0 p) g.2 h.1 (λ e. absurd cc)
    stands_once (list ts tail o) (name j p) n g h = same_node n (list_shape g.0 g.1 o) (leaf_shape h.0 h.1) g.2 h.2 (λ e. absurd cc)
    stands_once (list ts tail o) (atom b p) n g h = same_node n (list_shape g.0 g.1 o) (leaf_shape h.0 h.1) g.2 h.2 (λ e. absurd cc)
    stands_once (list ts tail o) (list us tail' p) n g h =
        same_node n (list_shape g.0 g.1 o) (list_shape h.0 h.1 p) g.2 h.2 (λ e.
        let items : h.0 ≡ g.0 = cc in
        let end : h.1 ≡ g.1 = cc in
        let place : o ≡ p = cc in
        let parts : ts ≡ us = all_once ts us g.0 g.3 (subst (λ (ns : List ℕ). AllStand nodes names us ns) items h.3) in
        let tails : tail ≡ tail' = tail_once tail tail' g.1 g.4 (subst (λ (m : Option ℕ). TailStands nodes names tail' m) end h.4) in
        λ j. list (parts j) (tails j) (place j))
    stands_once (list ts tail o) (vector us p) n g h = same_node n (list_shape g.0 g.1 o) (vector_shape h.0 p) g.2 h.1 (λ e. absurd cc)
    stands_once (vector ts o) (name j p) n g h = same_node n (vector_shape g.0 o) (leaf_shape h.0 h.1) g.1 h.2 (λ e. absurd cc)
    stands_once (vector ts o) (atom b p) n g h = same_node n (vector_shape g.0 o) (leaf_shape h.0 h.1) g.1 h.2 (λ e. absurd cc)
    stands_once (vector ts o) (list us tail p) n g h = same_node n (vector_shape g.0 o) (list_shape h.0 h.1 p) g.1 h.2 (λ e. absurd cc)
    stands_once (vector ts o) (vector us p) n g h =
        same_node n (vector_shape g.0 o) (vector_shape h.0 p) g.1 h.1 (λ e.
        let items : h.0 ≡ g.0 = cc in
        let place : o ≡ p = cc in
        let parts : ts ≡ us = all_once ts us g.0 g.2 (subst (λ (ns : List ℕ). AllStand nodes names us ns) items h.2) in
        λ j. vector (parts j) (place j))

    pub all_once : (ts us : Trees Identifier) (ns : List ℕ) → AllStand nodes names ts ns → AllStand nodes names us ns → ts ≡ us
    all_once no_trees no_trees ns g h = refl
    all_once no_trees (tree u us) [] g h = absurd h
    all_once no_trees (tree u us) (n ∷ ns) g h = absurd g
    all_once (tree t ts) no_trees [] g h = absurd g
    all_once (tree t ts) no_trees (n ∷ ns) g h = absurd h
    all_once (tree t ts) (tree u us) [] g h = absurd g
    all_once (tree t ts) (tree u us) (n ∷ ns) g h =
        let first = stands_once t u n g.0 h.0 in
        let rest = all_once ts us ns g.1 h.1 in
        λ j. tree (first j) (rest j)

    pub tail_once : (s t : Tail Identifier) (end : Option ℕ) → TailStands nodes names s end → TailStands nodes names t end → s ≡ t
    tail_once proper proper end g h = refl
    tail_once proper (dotted u) None g h = absurd h
    tail_once proper (dotted u) (Some n) g h = absurd g
    tail_once (dotted t) proper None g h = absurd g
    tail_once (dotted t) proper (Some n) g h = absurd h
    tail_once (dotted t) (dotted u) None g h = absurd g
    tail_once (dotted t) (dotted u) (Some n) g h = ap (λ (v : Tree Identifier). dotted v) (stands_once t u n g.1 h.1)
