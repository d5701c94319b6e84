-- What is seen of a datum (R7RS 7.1.2): an identifier, a numeral or a list; and the tree of symbols that it is.
use Rattle.std.specs.Prelude.{◌≡◌, ℕ, List, [], ◌∷◌, Bool, true, false, Option, Some, None}
use Rattle.std.specs.Borrow.{Bor}
use Rattle.std.specs.Option.{is_some}
use Rattle.std.specs.Str.{encode_utf8_all}
use Rattle.ls_base.specs.declared.places.Span.{Span}
use Rattle.scheme_model.specs.declared.Occ.{Occ}
use Rattle.scheme_model.specs.Kinds.{Mark, Name, Numeral, Quoted, Character, Truth}
use Rattle.scheme_model.specs.Data.{Atom, spelled, implied, Datum, atom, list, vector, bytes, Data, none, tail, row, place_of}
use Rattle.scheme_model.specs.DataTrees.{mark_symbol, tree_of}
use Rattle.scheme_model.specs.Trees.{Tree, name, atom as atom_tree, list as list_tree, vector as vector_tree, Trees, no_trees, tree, Tail, proper, dotted}
use Rattle.datum_reader.specs.declared.datum.Datum as code
use Rattle.datum_reader.specs.Views.{datum_of, data_of}
use Rattle.datum_reader.specs.declared.look.Look.{Look}
use Rattle.datum_reader.specs.declared.look.Look.TheVariants as looks
use Rattle.datum_reader.specs.declared.look.Row.{Row}
use Rattle.datum_reader.specs.declared.look.Row.TheVariants as rows

-- what ends a list
abbrev pub end_with : Option Datum → Data
end_with None = none
end_with (Some d) = tail d

abbrev pub is_other_atom : Atom → Bool
is_other_atom (spelled (Name s bars)) = false
is_other_atom (spelled (Numeral s)) = false
is_other_atom (spelled (Quoted s)) = true
is_other_atom (spelled (Character c)) = true
is_other_atom (spelled (Truth b)) = true
is_other_atom (implied mark) = false

abbrev pub is_other : Datum → Bool
is_other (atom p a) = is_other_atom a
is_other (list p ds) = false
is_other (vector p ds) = true
is_other (bytes p bs) = true

abbrev pub is_list : Datum → Bool
is_list (atom p a) = false
is_list (list p ds) = true
is_list (vector p ds) = false
is_list (bytes p bs) = false

-- a datum is a list with these parts, which is dotted or isn't
abbrev pub IsListOf : List code.Datum → Bool → Datum → Type 0
IsListOf ds b d = (end : Option Datum) × (d ≡ list (place_of d) (row (data_of ds) (end_with end))) × (b ≡ is_some end)

-- a datum is what is seen
abbrev pub IsLook : Look → Datum → Type 0
IsLook (looks.Name s) d = (glyphs : List ℕ) × (bars : Bool) × (d ≡ atom (place_of d) (spelled (Name glyphs bars))) × (s.now ≡ encode_utf8_all glyphs)
IsLook (looks.Implied s) d = (mark : Mark) × (d ≡ atom (place_of d) (implied mark)) × (s.now ≡ mark_symbol mark)
IsLook (looks.Numeral s) d = (glyphs : List ℕ) × (d ≡ atom (place_of d) (spelled (Numeral glyphs))) × (s.now ≡ encode_utf8_all glyphs)
IsLook (looks.List ds b) d = IsListOf ds.now b d
IsLook looks.Other d = is_other d ≡ true

abbrev pub symbol_now : Option (Bor (List ℕ)) → Option (List ℕ)
symbol_now None = None
symbol_now (Some s) = Some s.now

-- data in a row by their first
abbrev pub IsRow : Row → List code.Datum → Type 0
IsRow rows.Empty ds = ds ≡ []
IsRow (rows.Parts d es) ds = ds ≡ d.now ∷ es.now

-- ---- trees of symbols

-- a datum as a tree of symbols, its tokens placed
abbrev pub plain : (ℕ → Occ) → Datum → Tree (List ℕ)
plain place d = tree_of (λ s. s) place d

abbrev pub tree_at : (ℕ → Occ) → code.Datum → Tree (List ℕ)
tree_at place d = plain place (datum_of d)

abbrev pub trees_at : (ℕ → Occ) → List code.Datum → Trees (List ℕ)
trees_at place [] = no_trees
trees_at place (d ∷ ds) = tree (tree_at place d) (trees_at place ds)

-- whether a list is dotted
abbrev pub is_dotted : Tail (List ℕ) → Bool
is_dotted proper = false
is_dotted (dotted t) = true

-- the symbol of an identifier
abbrev pub word_of : Tree (List ℕ) → Option (List ℕ)
word_of (name s o) = Some s
word_of (atom_tree a o) = None
word_of (list_tree ts end o) = None
word_of (vector_tree ts o) = None

abbrev pub IsWord : Option (Bor (List ℕ)) → Datum → Type 0
IsWord s d = (place : ℕ → Occ) → word_of (plain place d) ≡ symbol_now s

-- the bytes of a datum
abbrev pub bytes_of : Datum → Span
bytes_of d = record { start = (place_of d).start; end = (place_of d).end }
