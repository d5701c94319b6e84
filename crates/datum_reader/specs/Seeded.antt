-- The tree of a datum (R7RS 7.1.2) as a form of a unit: its names are written in the unit, and what was read from a token has that
-- token's place, whose number counts from the form's first token.
use Rattle.std.specs.Prelude.{ℕ}
use Rattle.scheme_model.specs.declared.Home.{Home}
use Rattle.scheme_model.specs.declared.Occ.{Occ}
use Rattle.scheme_model.specs.Trees.{Tree, Trees, Tail, placed_in, placed_by}
use Rattle.scheme_model.specs.Data.{Atom, Datum, Data, place_of}
use Rattle.scheme_model.specs.DataTrees as trees
use Rattle.scheme_model.specs.Ident.{Ident as Identifier, Written}

abbrev pub atom_tree : ℕ → Atom → Occ → Tree Identifier
atom_tree unit a o = trees.atom_tree (Written unit) a o

abbrev pub tree_of : ℕ → (ℕ → Occ) → Datum → Tree Identifier
tree_of unit place d = trees.tree_of (Written unit) place d

abbrev pub parts_of : ℕ → (ℕ → Occ) → Data → Trees Identifier
parts_of unit place ds = trees.parts_of (Written unit) place ds

abbrev pub end_of : ℕ → (ℕ → Occ) → Data → Tail Identifier
end_of unit place ds = trees.end_of (Written unit) place ds

-- the tree of a datum that is this form of this unit
abbrev pub seeded : ℕ → ℕ → Datum → Tree Identifier
seeded unit form d = tree_of unit (placed_in unit form (place_of d).first) d

-- the tree of a datum of a text with this home, its names written in a unit
abbrev pub seeded_as : (into : ℕ) → Home → Datum → Tree Identifier
seeded_as into h d = tree_of into (placed_by h) d
