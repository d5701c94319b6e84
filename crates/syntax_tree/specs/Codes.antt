-- Nodes and regions as numbers, by which proofs tell them apart.
use Rattle.std.specs.Prelude.{◌≡◌, ◌⊎◌, ℕ, Bool, List, Option, refl}
use Rattle.std.proofs.Common.{inl, inr}
use Rattle.std.specs.Coded.{Coded, code_by, coded×, coded⊎, coded_ℕ, coded_bool, coded_list, coded_option}
use Rattle.std.specs.Ordering.{nat_cmp}
use Rattle.std.specs.FinMap as map
use Rattle.scheme_model.specs.declared.Occ.{Occ}
use Rattle.syntax_tree.specs.declared.trees.nodes.Leaf.{Leaf}
use Rattle.syntax_tree.specs.declared.trees.nodes.Leaf.TheVariants.{Name, Numeral, Quoted, Char, Bool as Truth, Bytes}
use Rattle.node_pool.specs.NodePool.{lived_code}
use Rattle.syntax_tree.specs.Nodes.{Shape, leaf_shape, list_shape, vector_shape, Nodes}
use Rattle.syntax_tree.specs.Regions.{Forest, Regions}

-- a place is stored as its three numbers, or as nothing
abbrev occ_code : Coded (Option Occ)
occ_code =
    coded_option (code_by (ℕ × (ℕ × ℕ)) (coded× coded_ℕ (coded× coded_ℕ coded_ℕ)) (λ o. (o.unit, (o.form, o.token))) (λ p. record { unit = p.0; form = p.1.0; token = p.1.1 }) (λ _. refl))

-- a leaf by its kind
abbrev Kinds : Type 0
Kinds = ℕ ⊎ (ℕ ⊎ (ℕ ⊎ (ℕ ⊎ (Bool ⊎ ℕ))))

abbrev kind_of : Leaf → Kinds
kind_of (Name i) = inl i
kind_of (Numeral k) = inr (inl k)
kind_of (Quoted k) = inr (inr (inl k))
kind_of (Char c) = inr (inr (inr (inl c)))
kind_of (Truth b) = inr (inr (inr (inr (inl b))))
kind_of (Bytes k) = inr (inr (inr (inr (inr k))))

abbrev leaf_of : Kinds → Leaf
leaf_of (inl i) = Name i
leaf_of (inr (inl k)) = Numeral k
leaf_of (inr (inr (inl k))) = Quoted k
leaf_of (inr (inr (inr (inl c)))) = Char c
leaf_of (inr (inr (inr (inr (inl b))))) = Truth b
leaf_of (inr (inr (inr (inr (inr k))))) = Bytes k

pub leaf_back : (l : Leaf) → leaf_of (kind_of l) ≡ l
leaf_back (Name i) = refl
leaf_back (Numeral k) = refl
leaf_back (Quoted k) = refl
leaf_back (Char c) = refl
leaf_back (Truth b) = refl
leaf_back (Bytes k) = refl

abbrev leaf_code : Coded Leaf
leaf_code = code_by Kinds (coded⊎ coded_ℕ (coded⊎ coded_ℕ (coded⊎ coded_ℕ (coded⊎ coded_ℕ (coded⊎ coded_bool coded_ℕ))))) kind_of leaf_of leaf_back

-- a node by its kind
abbrev Shapes : Type 0
Shapes = (Leaf × Option Occ) ⊎ ((List ℕ × (Option ℕ × Option Occ)) ⊎ (List ℕ × Option Occ))

abbrev split : Shape → Shapes
split (leaf_shape leaf o) = inl (leaf, o)
split (list_shape items end o) = inr (inl (items, (end, o)))
split (vector_shape items o) = inr (inr (items, o))

abbrev joined : Shapes → Shape
joined (inl p) = leaf_shape p.0 p.1
joined (inr (inl p)) = list_shape p.0 p.1.0 p.1.1
joined (inr (inr p)) = vector_shape p.0 p.1

pub shape_back : (s : Shape) → joined (split s) ≡ s
shape_back (leaf_shape leaf o) = refl
shape_back (list_shape items end o) = refl
shape_back (vector_shape items o) = refl

abbrev shape_code : Coded Shape
shape_code =
    code_by Shapes (coded⊎ (coded× leaf_code occ_code) (coded⊎ (coded× (coded_list coded_ℕ) (coded× (coded_option coded_ℕ) occ_code)) (coded× (coded_list coded_ℕ) occ_code))) split joined shape_back

abbrev pub forest_code : Coded Forest
forest_code =
    code_by (Nodes × (Option ℕ × (Regions × (map.FinMap nat_cmp ℕ × ℕ))))
    (coded× (map.code coded_ℕ (lived_code shape_code)) (coded× (coded_option coded_ℕ) (coded× (map.code coded_ℕ (coded_list coded_ℕ)) (coded× (map.code coded_ℕ coded_ℕ) coded_ℕ))))
    (λ f. (f.nodes, (f.identity, (f.regions, (f.counts, f.spare)))))
    (λ p. record { nodes = p.0; identity = p.1.0; regions = p.1.1.0; counts = p.1.1.1.0; spare = p.1.1.1.1 }) (λ _. refl)
