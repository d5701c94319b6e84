-- The tree of a datum with its names changed is its tree with the changed names.
use Rattle.std.proofs.Common.{◌≡◌, ℕ, List, Some, refl, ap}
use Rattle.scheme_model.specs.declared.Home.{Home}
use Rattle.scheme_model.specs.declared.Occ.{Occ}
use Rattle.scheme_model.specs.Trees.{Tree, list as list_of, vector as vector_of, Trees, tree, dotted, map_tree, map_trees, map_tail, placed_in, placed_by}
use Rattle.scheme_model.specs.Kinds.{Name, Numeral, Quoted, Character, Truth}
use Rattle.scheme_model.specs.Data.{Atom, spelled, implied, Datum, atom, list, vector, bytes, Data, none, part, tail, place_of}
use Rattle.scheme_model.specs.DataTrees.{atom_tree, tree_of, parts_of, end_of, form_as, form_of}
use Rattle.scheme_model.specs.Ident.{Written, root}
use Rattle.datum_reader.specs.Seeded.{seeded, seeded_as}

module _ {A B : Type 0} (f : A → B) (written : List ℕ → A) (place : ℕ → Occ) where
  atom_mapped : (a : Atom) (o : Occ) → map_tree f (atom_tree written a o) ≡ atom_tree (λ s. f (written s)) a o
  atom_mapped (spelled (Name s bars)) o = refl
  atom_mapped (spelled (Numeral text)) o = refl
  atom_mapped (spelled (Quoted text)) o = refl
  atom_mapped (spelled (Character c)) o = refl
  atom_mapped (spelled (Truth b)) o = refl
  atom_mapped (implied mark) o = refl

  mutual
    pub tree_mapped : (d : Datum) → map_tree f (tree_of written place d) ≡ tree_of (λ s. f (written s)) place d
    tree_mapped (atom p a) = atom_mapped a (place p.first)
    tree_mapped (list p ds) = λ j. list_of (parts_mapped ds j) (end_mapped ds j) (Some (place p.first))
    tree_mapped (vector p ds) = ap (λ (ts : Trees B). vector_of ts (Some (place p.first))) (parts_mapped ds)
    tree_mapped (bytes p texts) = refl

    parts_mapped : (ds : Data) → map_trees f (parts_of written place ds) ≡ parts_of (λ s. f (written s)) place ds
    parts_mapped none = refl
    parts_mapped (part d ds) = λ j. tree (tree_mapped d j) (parts_mapped ds j)
    parts_mapped (tail d) = refl

    end_mapped : (ds : Data) → map_tail f (end_of written place ds) ≡ end_of (λ s. f (written s)) place ds
    end_mapped none = refl
    end_mapped (part d ds) = end_mapped ds
    end_mapped (tail d) = ap (λ (t : Tree B). dotted t) (tree_mapped d)

-- the tree that a datum becomes is its form's tree in the definitions
pub seeded_is_form : (unit form : ℕ) (d : Datum) → map_tree root (seeded unit form d) ≡ form_of unit form d
seeded_is_form unit form d = tree_mapped root (Written unit) (placed_in unit form (place_of d).first) d

pub taken_is_form : (into : ℕ) (h : Home) (d : Datum) → map_tree root (seeded_as into h d) ≡ form_as into h d
taken_is_form into h d = tree_mapped root (Written into) (placed_by h) d
