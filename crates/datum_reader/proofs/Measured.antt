-- The size and the depth of a datum's tree: they are the same whatever the unit and the places are.
use Rattle.std.proofs.Common.{◌≡◌, ℕ, ◌+◌, ◌≤◌, List, [], ◌∷◌, refl, sym, ap, ◌∙◌, subst, arith}
use Rattle.std.specs.Prelude.{max}
use Rattle.ls_base.specs.Limits.{max_tree_nodes, max_tree_depth}
use Rattle.scheme_model.specs.declared.Occ.{Occ}
use Rattle.scheme_model.specs.Kinds.{Name, Numeral, Quoted, Character, Truth}
use Rattle.scheme_model.specs.Trees.{Tail, proper, placed_in}
use Rattle.scheme_model.specs.Ident.{Ident as Identifier}
use Rattle.scheme_model.specs.Measures.{tree_size, trees_size, tail_size, tree_depth, trees_depth, tail_depth}
use Rattle.scheme_model.specs.Data.{Place, Atom, spelled, implied, Datum, atom, list, vector, bytes, Data, none, part, tail, row, place_of}
use Rattle.datum_reader.specs.WellFormed.{IsWellFormed, CanSeed}
use Rattle.datum_reader.specs.Seeded.{atom_tree, tree_of, parts_of, end_of}

-- ---- of the tree in unit 0

abbrev pub datum_size : Datum → ℕ
datum_size d = tree_size (tree_of 0 (placed_in 0 0 0) d)

abbrev pub datum_depth : Datum → ℕ
datum_depth d = tree_depth (tree_of 0 (placed_in 0 0 0) d)

-- the parts of a list, and its tail
abbrev pub data_size : Data → ℕ
data_size ds = trees_size (parts_of 0 (placed_in 0 0 0) ds) + tail_size (end_of 0 (placed_in 0 0 0) ds)

abbrev pub data_depth : Data → ℕ
data_depth ds = max (trees_depth (parts_of 0 (placed_in 0 0 0) ds)) (tail_depth (end_of 0 (placed_in 0 0 0) ds))

-- ---- atoms and vectors

pub atom-size : (unit : ℕ) (a : Atom) (o : Occ) → tree_size (atom_tree unit a o) ≡ 1
atom-size unit (spelled (Name s bars)) o = refl
atom-size unit (spelled (Numeral text)) o = refl
atom-size unit (spelled (Quoted text)) o = refl
atom-size unit (spelled (Character c)) o = refl
atom-size unit (spelled (Truth b)) o = refl
atom-size unit (implied mark) o = refl

atom-depth : (unit : ℕ) (a : Atom) (o : Occ) → tree_depth (atom_tree unit a o) ≡ 1
atom-depth unit (spelled (Name s bars)) o = refl
atom-depth unit (spelled (Numeral text)) o = refl
atom-depth unit (spelled (Quoted text)) o = refl
atom-depth unit (spelled (Character c)) o = refl
atom-depth unit (spelled (Truth b)) o = refl
atom-depth unit (implied mark) o = refl

pub one_node : (p : Place) (a : Atom) → datum_size (atom p a) ≡ 1
one_node p a = atom-size 0 a (placed_in 0 0 0 p.first)

pub one_deep : (p : Place) (a : Atom) → datum_depth (atom p a) ≡ 1
one_deep p a = atom-depth 0 a (placed_in 0 0 0 p.first)

no_end : (ds : List Datum) → end_of 0 (placed_in 0 0 0) (row ds none) ≡ proper
no_end [] = refl
no_end (d ∷ ds) = no_end ds

pub vector-size : (p : Place) (ds : List Datum) → datum_size (vector p (row ds none)) ≡ 1 + data_size (row ds none)
vector-size p ds = let e = ap (λ (end : Tail Identifier). tail_size end) (no_end ds) in omega (arith, e)

pub vector-depth : (p : Place) (ds : List Datum) → datum_depth (vector p (row ds none)) ≡ 1 + data_depth (row ds none)
vector-depth p ds = let e = ap (λ (end : Tail Identifier). tail_depth end) (no_end ds) in omega (arith, e)

-- ---- of a tree in any unit, with any places

module _ (unit : ℕ) (place : ℕ → Occ) where
  mutual
    pub size_is : (d : Datum) → tree_size (tree_of unit place d) ≡ datum_size d
    size_is (atom p a) = atom-size unit a (place p.first) ∙ sym (one_node p a)
    size_is (list p ds) = λ j. 1 + (parts-size ds j + end-size ds j)
    size_is (vector p ds) = λ j. 1 + parts-size ds j
    size_is (bytes p texts) = refl

    parts-size : (ds : Data) → trees_size (parts_of unit place ds) ≡ trees_size (parts_of 0 (placed_in 0 0 0) ds)
    parts-size none = refl
    parts-size (part d ds) = λ j. size_is d j + parts-size ds j
    parts-size (tail d) = refl

    end-size : (ds : Data) → tail_size (end_of unit place ds) ≡ tail_size (end_of 0 (placed_in 0 0 0) ds)
    end-size none = refl
    end-size (part d ds) = end-size ds
    end-size (tail d) = size_is d

  mutual
    pub depth_is : (d : Datum) → tree_depth (tree_of unit place d) ≡ datum_depth d
    depth_is (atom p a) = atom-depth unit a (place p.first) ∙ sym (one_deep p a)
    depth_is (list p ds) = λ j. 1 + max (parts-depth ds j) (end-depth ds j)
    depth_is (vector p ds) = λ j. 1 + parts-depth ds j
    depth_is (bytes p texts) = refl

    parts-depth : (ds : Data) → trees_depth (parts_of unit place ds) ≡ trees_depth (parts_of 0 (placed_in 0 0 0) ds)
    parts-depth none = refl
    parts-depth (part d ds) = λ j. max (depth_is d j) (parts-depth ds j)
    parts-depth (tail d) = refl

    end-depth : (ds : Data) → tail_depth (end_of unit place ds) ≡ tail_depth (end_of 0 (placed_in 0 0 0) ds)
    end-depth none = refl
    end-depth (part d ds) = end-depth ds
    end-depth (tail d) = depth_is d

-- ---- what a tree can be made of

-- one tree that is small and shallow enough tells of all
pub seedable : (d : Datum) → IsWellFormed d → datum_size d ≤ max_tree_nodes → datum_depth d ≤ max_tree_depth → CanSeed d
seedable d r s h = record {
  right = r;
  small = λ unit form. subst (λ (n : ℕ). n ≤ max_tree_nodes) (sym (size_is unit (placed_in unit form (place_of d).first) d)) s;
  shallow = λ unit form. subst (λ (n : ℕ). n ≤ max_tree_depth) (sym (depth_is unit (placed_in unit form (place_of d).first) d)) h;
}

pub is_small : (d : Datum) → CanSeed d → datum_size d ≤ max_tree_nodes
is_small d h = subst (λ (n : ℕ). n ≤ max_tree_nodes) (size_is 0 (placed_in 0 0 (place_of d).first) d) (h.small 0 0)

pub is_shallow : (d : Datum) → CanSeed d → datum_depth d ≤ max_tree_depth
is_shallow d h = subst (λ (n : ℕ). n ≤ max_tree_depth) (depth_is 0 (placed_in 0 0 (place_of d).first) d) (h.shallow 0 0)
