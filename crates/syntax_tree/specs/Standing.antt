-- What the number of a node stands for: a tree whose names are the identifiers of the code. It does not rest on the order of
-- numbers.
use Rattle.std.specs.Prelude.{◌≡◌, ℕ, Bool, true, false, List, [], ◌∷◌, slice_get, Option, Some, None}
use Rattle.std.specs.Option.{option_map}
use Rattle.scheme_model.specs.declared.Occ.{Occ}
use Rattle.scheme_model.specs.Trees.{Numeral, Quoted, Character, Boolean, Bytes, Tree, name, atom, list, vector, Trees, no_trees, tree, Tail, proper, dotted}
use Rattle.scheme_model.specs.Ident.{Ident as Identifier}
use Rattle.syntax_tree.specs.Names.{Names}
use Rattle.syntax_tree.specs.Nodes.{Shape, leaf_shape, list_shape, vector_shape, Nodes, shape_at}
use Rattle.syntax_tree.specs.declared.trees.nodes.Leaf.{Leaf}
use Rattle.syntax_tree.specs.declared.trees.nodes.Leaf.TheVariants as code

abbrev pub is_list : {A : Type 0} → Tree A → Bool
is_list (name i o) = false
is_list (atom a o) = false
is_list (list ts tail o) = true
is_list (vector ts o) = false

-- the tree that a leaf stands for, where its number is a place of the tables
abbrev pub leaf_tree : Names → Leaf → Option Occ → Option (Tree Identifier)
leaf_tree names (code.Name i) o = option_map (λ (j : Identifier). name j o) (slice_get names.idents i)
leaf_tree names (code.Numeral k) o = option_map (λ (s : List ℕ). atom (Numeral s) o) (slice_get names.symbols k)
leaf_tree names (code.Quoted k) o = option_map (λ (s : List ℕ). atom (Quoted s) o) (slice_get names.symbols k)
leaf_tree names (code.Char c) o = Some (atom (Character c) o)
leaf_tree names (code.Bool b) o = Some (atom (Boolean b) o)
leaf_tree names (code.Bytes k) o = option_map (λ (s : List ℕ). atom (Bytes s) o) (slice_get names.symbols k)

-- a leaf lives at this number, and stands for the tree
abbrev pub LeafStands : Nodes → Names → Tree Identifier → ℕ → Type 0
LeafStands nodes names t n =
    (leaf : Leaf) × (o : Option Occ) × (shape_at nodes n ≡ Some (leaf_shape leaf o)) × (leaf_tree names leaf o ≡ Some t)

-- the node of this number lives, and is of this tree: its parts stand for the tree's parts, and a tail is no list
abbrev mutual
  pub Stands : Nodes → Names → Tree Identifier → ℕ → Type 0
  Stands nodes names (name i o) n = LeafStands nodes names (name i o) n
  Stands nodes names (atom a o) n = LeafStands nodes names (atom a o) n
  Stands nodes names (list ts tail o) n =
      (items : List ℕ) × (end : Option ℕ) × (shape_at nodes n ≡ Some (list_shape items end o)) × AllStand nodes names ts items × TailStands nodes names tail end
  Stands nodes names (vector ts o) n =
      (items : List ℕ) × (shape_at nodes n ≡ Some (vector_shape items o)) × AllStand nodes names ts items

  pub AllStand : Nodes → Names → Trees Identifier → List ℕ → Type 0
  AllStand nodes names no_trees [] = Unit {0}
  AllStand nodes names no_trees (n ∷ ns) = ⊥
  AllStand nodes names (tree t ts) [] = ⊥
  AllStand nodes names (tree t ts) (n ∷ ns) = Stands nodes names t n × AllStand nodes names ts ns

  pub TailStands : Nodes → Names → Tail Identifier → Option ℕ → Type 0
  TailStands nodes names proper None = Unit {0}
  TailStands nodes names proper (Some n) = ⊥
  TailStands nodes names (dotted t) None = ⊥
  TailStands nodes names (dotted t) (Some n) = (is_list t ≡ false) × Stands nodes names t n

-- a node is of this tree: its parts stand for the tree's parts
abbrev pub IsNode : Nodes → Names → Shape → Tree Identifier → Type 0
IsNode nodes names (leaf_shape leaf o) t = leaf_tree names leaf o ≡ Some t
IsNode nodes names (list_shape items end o) t =
    (ts : Trees Identifier) × (tail : Tail Identifier) × (t ≡ list ts tail o) × AllStand nodes names ts items × TailStands nodes names tail end
IsNode nodes names (vector_shape items o) t =
    (ts : Trees Identifier) × (t ≡ vector ts o) × AllStand nodes names ts items
