-- The trees of data whose tokens count from their form's first, as they are compared.
use Rattle.std.specs.Prelude.{ℕ, List, [], ◌∷◌, map, Option, Some, None}
use Rattle.std.specs.Global.{Box}
use Rattle.std.specs.List.{join_with_byte}
use Rattle.std.specs.Str.{chars, encode_utf8_all}
use Rattle.scheme_model.specs.declared.Occ.{Occ}
use Rattle.scheme_model.specs.Data.{spelled}
use Rattle.scheme_model.specs.DataTrees.{atom_tree, tree_of}
use Rattle.scheme_model.specs.Trees.{Tree, Trees, no_trees, tree, Tail, proper, dotted, placed_in}
use Rattle.datum_reader.specs.Views.{datum_of, leaf_of}
use Rattle.datum_reader.specs.declared.datum.Atom.{Atom}
use Rattle.datum_reader.specs.declared.datum.Datum.{Datum}

-- a token, by the first of its form
abbrev pub token_at : (first token : ℕ) → Occ
token_at first token = placed_in 0 0 first token

abbrev pub tree_as : (first : ℕ) → Datum → Tree (List ℕ)
tree_as first d = tree_of (λ s. s) (token_at first) (datum_of d)

abbrev pub parts_as : (first : ℕ) → List Datum → Trees (List ℕ)
parts_as first [] = no_trees
parts_as first (d ∷ ds) = tree (tree_as first d) (parts_as first ds)

abbrev pub end_as : (first : ℕ) → Option (Box Datum) → Tail (List ℕ)
end_as first None = proper
end_as first (Some d) = dotted (tree_as first d.value)

abbrev pub atom_as : Occ → Atom → Tree (List ℕ)
atom_as o a = atom_tree (λ s. s) (spelled (leaf_of a)) o

-- a bytevector's numerals, with one space between each two
abbrev pub bytes_as : List (List ℕ) → List ℕ
bytes_as texts = join_with_byte 32 (map encode_utf8_all (map chars texts))
