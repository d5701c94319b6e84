-- The measures that are kept are those of the trees that numbers stand for.
use Rattle.std.proofs.Common.{◌≡◌, ℕ, ◌+◌, ◌≤◌, List, [], ◌∷◌, max, sum_by, Option, Some, None, refl, sym, ap, ◌∙◌, arith}
use Rattle.std.specs.List.{AllByRecursion}
use Rattle.std.specs.Option.{option_map_or}
use Rattle.std.specs.FinMap as map
use Rattle.std.proofs.lemmas.List.Sums.{sum_by-cons}
use Rattle.node_pool.specs.NodePool as pool
use Rattle.scheme_model.specs.declared.Occ.{Occ}
use Rattle.scheme_model.specs.Trees.{Tree, name, atom, list, vector, Trees, no_trees, tree, Tail, proper, dotted}
use Rattle.scheme_model.specs.Ident.{Ident as Identifier}
use Rattle.ls_base.specs.Limits.{max_tree_nodes, max_tree_depth}
use Rattle.syntax_tree.specs.Names.{Names}
use Rattle.scheme_model.specs.Measures.{tree_size, trees_size, tail_size, tree_depth, trees_depth, tail_depth}
use Rattle.syntax_tree.specs.Nodes.{Shape, leaf_shape, list_shape, vector_shape, parts_of, shape_at}
use Rattle.syntax_tree.specs.Standing.{Stands, AllStand, TailStands, IsNode}
use Rattle.syntax_tree.specs.Kept.{shape_of, KeptNodes, nodes_of, size_at, depth_at, shape_size, deepest, shape_depth, AreKept}
use Rattle.syntax_tree.specs.declared.trees.measures.Kept.{Kept}
use Rattle.syntax_tree.proofs.NodeLaws.{kept_at}
use Rattle.syntax_tree.proofs.StandingLaws.{IsLeafy, leafy}

-- what is kept at a number is by the shape there
size_is : (ns : KeptNodes) → AreKept ns → (n : ℕ) (s : Shape) → shape_at (nodes_of ns) n ≡ Some s → size_at ns n ≡ shape_size (size_at ns) s
size_is ns kept n s h =
    let p = kept_at ns n s h in
    ap (λ (o : Option (pool.Lived Kept)). option_map_or (λ (k : pool.Lived Kept). k.node.size) o 0) p.1 ∙ kept.sizes n p.0 p.1 ∙ ap (shape_size (size_at ns)) p.2

depth_is : (ns : KeptNodes) → AreKept ns → (n : ℕ) (s : Shape) → shape_at (nodes_of ns) n ≡ Some s → depth_at ns n ≡ shape_depth (depth_at ns) s
depth_is ns kept n s h =
    let p = kept_at ns n s h in
    ap (λ (o : Option (pool.Lived Kept)). option_map_or (λ (k : pool.Lived Kept). k.node.depth) o 0) p.1 ∙ kept.depths n p.0 p.1 ∙ ap (shape_depth (depth_at ns)) p.2

-- the measures of a number are those of its tree
pub record IsMeasured (ns : KeptNodes) (t : Tree Identifier) (n : ℕ) : Type 0 where
  pub size : size_at ns n ≡ tree_size t
  pub depth : depth_at ns n ≡ tree_depth t

pub record AreMeasured (ns : KeptNodes) (ts : Trees Identifier) (parts : List ℕ) : Type 0 where
  pub sizes : sum_by (size_at ns) parts ≡ trees_size ts
  pub depths : deepest (depth_at ns) parts ≡ trees_depth ts

pub record TailMeasured (ns : KeptNodes) (tail : Tail Identifier) (end : Option ℕ) : Type 0 where
  pub size : option_map_or (size_at ns) end 0 ≡ tail_size tail
  pub depth : option_map_or (depth_at ns) end 0 ≡ tail_depth tail

-- the measures of a list by those of its parts and of its tail
pub list_size : (size : ℕ → ℕ) (items : List ℕ) (end : Option ℕ) (o : Option Occ) → shape_size size (list_shape items end o) ≡ 1 + (sum_by size items + option_map_or size end 0)
list_size size items None o = omega arith
list_size size items (Some n) o = omega (arith, sum_by-cons size n items)

pub list_depth : (depth : ℕ → ℕ) (items : List ℕ) (end : Option ℕ) (o : Option Occ) → shape_depth depth (list_shape items end o) ≡ 1 + max (deepest depth items) (option_map_or depth end 0)
list_depth depth items None o = omega arith
list_depth depth items (Some n) o = omega arith

module _ (ns : KeptNodes) (kept : AreKept ns) (names : Names) where
  leaf_measured : (t : Tree Identifier) (n : ℕ) (s : Shape) → shape_at (nodes_of ns) n ≡ Some s → shape_size (size_at ns) s ≡ tree_size t → shape_depth (depth_at ns) s ≡ tree_depth t → IsMeasured ns t n
  leaf_measured t n s at size depth = record {
    size = size_is ns kept n s at ∙ size;
    depth = depth_is ns kept n s at ∙ depth;
  }

  list_sized : (ts : Trees Identifier) (tail : Tail Identifier) (items : List ℕ) (end : Option ℕ) (o p : Option Occ) → AreMeasured ns ts items → TailMeasured ns tail end →
      shape_size (size_at ns) (list_shape items end o) ≡ tree_size (list ts tail p)
  list_sized ts tail items end o p m e =
      list_size (size_at ns) items end o ∙ (λ j. 1 + (m.sizes j + e.size j))

  list_deep : (ts : Trees Identifier) (tail : Tail Identifier) (items : List ℕ) (end : Option ℕ) (o p : Option Occ) → AreMeasured ns ts items → TailMeasured ns tail end →
      shape_depth (depth_at ns) (list_shape items end o) ≡ tree_depth (list ts tail p)
  list_deep ts tail items end o p m e =
      list_depth (depth_at ns) items end o ∙ (λ j. 1 + max (m.depths j) (e.depth j))

  mutual
    pub measured : (t : Tree Identifier) (n : ℕ) → Stands (nodes_of ns) names t n → IsMeasured ns t n
    measured (name i o) n h = leaf_measured (name i o) n (leaf_shape h.0 h.1) h.2 refl refl
    measured (atom a o) n h = leaf_measured (atom a o) n (leaf_shape h.0 h.1) h.2 refl refl
    measured (list ts tail o) n h =
        let m = all_measured ts h.0 h.3 in
        let e = tail_measured tail h.1 h.4 in
        leaf_measured (list ts tail o) n (list_shape h.0 h.1 o) h.2 (list_sized ts tail h.0 h.1 o o m e) (list_deep ts tail h.0 h.1 o o m e)
    measured (vector ts o) n h =
        let m = all_measured ts h.0 h.2 in
        leaf_measured (vector ts o) n (vector_shape h.0 o) h.1 (ap (λ (k : ℕ). 1 + k) m.sizes) (ap (λ (k : ℕ). 1 + k) m.depths)

    pub all_measured : (ts : Trees Identifier) (parts : List ℕ) → AllStand (nodes_of ns) names ts parts → AreMeasured ns ts parts
    all_measured no_trees [] h = record { sizes = refl; depths = refl }
    all_measured no_trees (n ∷ parts) h = absurd h
    all_measured (tree t ts) [] h = absurd h
    all_measured (tree t ts) (n ∷ parts) h =
        let first = measured t n h.0 in
        let rest = all_measured ts parts h.1 in
        record {
          sizes = sum_by-cons (size_at ns) n parts ∙ (λ j. first.size j + rest.sizes j);
          depths = λ j. max (first.depth j) (rest.depths j);
        }

    pub tail_measured : (tail : Tail Identifier) (end : Option ℕ) → TailStands (nodes_of ns) names tail end → TailMeasured ns tail end
    tail_measured proper None h = record { size = refl; depth = refl }
    tail_measured proper (Some n) h = absurd h
    tail_measured (dotted t) None h = absurd h
    tail_measured (dotted t) (Some n) h =
        let m = measured t n h.1 in
        record { size = m.size; depth = m.depth }

-- a tree that stands is within the limits
pub tree_small : (ns : KeptNodes) → AreKept ns → (names : Names) (t : Tree Identifier) (n : ℕ) → Stands (nodes_of ns) names t n → (tree_size t ≤ max_tree_nodes) × (tree_depth t ≤ max_tree_depth)
tree_small ns kept names t n h =
    let m = measured ns kept names t n h in
    kept_small (map.get ns n) refl m
  where
    kept_small : (o : Option (pool.Lived Kept)) → map.get ns n ≡ o → IsMeasured ns t n → (tree_size t ≤ max_tree_nodes) × (tree_depth t ≤ max_tree_depth)
    kept_small (Some k) at m =
        let s = kept.small n k at in
        let size : k.node.size ≡ tree_size t = sym (ap (λ (o : Option (pool.Lived Kept)). option_map_or (λ (k : pool.Lived Kept). k.node.size) o 0) at) ∙ m.size in
        let depth : k.node.depth ≡ tree_depth t = sym (ap (λ (o : Option (pool.Lived Kept)). option_map_or (λ (k : pool.Lived Kept). k.node.depth) o 0) at) ∙ m.depth in
        (omega (arith, s.0, size), omega (arith, s.1, depth))
    kept_small None at m =
        let size : 0 ≡ tree_size t = sym (ap (λ (o : Option (pool.Lived Kept)). option_map_or (λ (k : pool.Lived Kept). k.node.size) o 0) at) ∙ m.size in
        let depth : 0 ≡ tree_depth t = sym (ap (λ (o : Option (pool.Lived Kept)). option_map_or (λ (k : pool.Lived Kept). k.node.depth) o 0) at) ∙ m.depth in
        (omega (arith, size), omega (arith, depth))

-- a node whose parts stand is measured like its tree
pub record NodeMeasured (ns : KeptNodes) (s : Shape) (t : Tree Identifier) : Type 0 where
  pub size : shape_size (size_at ns) s ≡ tree_size t
  pub depth : shape_depth (depth_at ns) s ≡ tree_depth t

one_node : (t : Tree Identifier) → IsLeafy t → (1 ≡ tree_size t) × (1 ≡ tree_depth t)
one_node (name i o) l = (refl, refl)
one_node (atom a o) l = (refl, refl)
one_node (list ts tail o) l = absurd l
one_node (vector ts o) l = absurd l

pub node_measured : (ns : KeptNodes) → AreKept ns → (names : Names) (s : Shape) (t : Tree Identifier) → IsNode (nodes_of ns) names s t → NodeMeasured ns s t
node_measured ns kept names (leaf_shape leaf o) t h =
    let one = one_node t (leafy names leaf o t h) in
    record { size = one.0; depth = one.1 }
node_measured ns kept names (list_shape items end o) t h =
    let m = all_measured ns kept names h.0 items h.3 in
    let e = tail_measured ns kept names h.1 end h.4 in
    record {
      size = list_sized ns kept names h.0 h.1 items end o o m e ∙ ap tree_size (sym h.2);
      depth = list_deep ns kept names h.0 h.1 items end o o m e ∙ ap tree_depth (sym h.2);
    }
node_measured ns kept names (vector_shape items o) t h =
    let m = all_measured ns kept names h.0 items h.2 in
    record {
      size = ap (λ (k : ℕ). 1 + k) m.sizes ∙ ap tree_size (sym h.1);
      depth = ap (λ (k : ℕ). 1 + k) m.depths ∙ ap tree_depth (sym h.1);
    }

-- ---- the measures of a node stay where its parts stay

module _ (old new : KeptNodes) where
  abbrev pub IsSame : ℕ → Type 0
  IsSame n = map.get new n ≡ map.get old n

  sum_same : (parts : List ℕ) → AllByRecursion IsSame parts → sum_by (size_at old) parts ≡ sum_by (size_at new) parts
  sum_same [] h = refl
  sum_same (n ∷ parts) h =
      let one : size_at old n ≡ size_at new n = ap (λ (o : Option (pool.Lived Kept)). option_map_or (λ (k : pool.Lived Kept). k.node.size) o 0) (sym h.0) in
      sum_by-cons (size_at old) n parts ∙ (λ j. one j + sum_same parts h.1 j) ∙ sym (sum_by-cons (size_at new) n parts)

  deepest_same : (parts : List ℕ) → AllByRecursion IsSame parts → deepest (depth_at old) parts ≡ deepest (depth_at new) parts
  deepest_same [] h = refl
  deepest_same (n ∷ parts) h =
      let one : depth_at old n ≡ depth_at new n = ap (λ (o : Option (pool.Lived Kept)). option_map_or (λ (k : pool.Lived Kept). k.node.depth) o 0) (sym h.0) in
      λ j. max (one j) (deepest_same parts h.1 j)

  pub size_stays : (s : Shape) → AllByRecursion IsSame (parts_of s) → shape_size (size_at old) s ≡ shape_size (size_at new) s
  size_stays s h = ap (λ (k : ℕ). 1 + k) (sum_same (parts_of s) h)

  pub depth_stays : (s : Shape) → AllByRecursion IsSame (parts_of s) → shape_depth (depth_at old) s ≡ shape_depth (depth_at new) s
  depth_stays s h = ap (λ (k : ℕ). 1 + k) (deepest_same (parts_of s) h)
