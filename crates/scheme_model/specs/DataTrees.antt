-- The tree of a datum (R7RS 7.1.2): its symbols are written, in UTF-8, and what was read from a token has that token's place.
use Rattle.std.specs.Prelude.{ℕ, List, map, Some, None, codes}
use Rattle.std.specs.List.{join_with_byte}
use Rattle.std.specs.Str.{encode_utf8_all}
use Rattle.scheme_model.specs.declared.Occ.{Occ}
use Rattle.scheme_model.specs.declared.Home.{Home}
use Rattle.scheme_model.specs.Trees.{Tree, name, atom as atom_of, Numeral as NumeralAtom, Quoted as QuotedAtom, Character as CharacterAtom, Boolean, Bytes, list as list_of, vector as vector_of, Trees, no_trees, tree, Tail, proper, dotted, placed_in, placed_by}
use Rattle.scheme_model.specs.Kinds.{Mark, Quote, Quasi, Unquote, Splice, Name, Numeral, Quoted, Character, Truth}
use Rattle.scheme_model.specs.Identifiers.{Name as Identifier, Written}
use Rattle.scheme_model.specs.Data.{Atom, spelled, implied, Datum, atom, list, vector, bytes, Data, none, part, tail, place_of}

-- the symbol that a mark abbreviates
abbrev pub mark_symbol : Mark → List ℕ
mark_symbol Quote = codes "quote"
mark_symbol Quasi = codes "quasiquote"
mark_symbol Unquote = codes "unquote"
mark_symbol Splice = codes "unquote-splicing"

-- the tree of an atom; the identifier that a mark implies has no place
abbrev pub atom_tree : {A : Type 0} → (List ℕ → A) → Atom → Occ → Tree A
atom_tree written (spelled (Name s bars)) o = name (written (encode_utf8_all s)) (Some o)
atom_tree written (spelled (Numeral text)) o = atom_of (NumeralAtom (encode_utf8_all text)) (Some o)
atom_tree written (spelled (Quoted text)) o = atom_of (QuotedAtom (encode_utf8_all text)) (Some o)
atom_tree written (spelled (Character c)) o = atom_of (CharacterAtom c) (Some o)
atom_tree written (spelled (Truth b)) o = atom_of (Boolean b) (Some o)
atom_tree written (implied mark) o = name (written (mark_symbol mark)) None

-- the tree of a datum, its tokens placed; a bytevector's numerals stand with one space between each two
abbrev mutual
  pub tree_of : {A : Type 0} → (List ℕ → A) → (ℕ → Occ) → Datum → Tree A
  tree_of written place (atom p kind) = atom_tree written kind (place p.first)
  tree_of written place (list p ds) = list_of (parts_of written place ds) (end_of written place ds) (Some (place p.first))
  tree_of written place (vector p ds) = vector_of (parts_of written place ds) (Some (place p.first))
  tree_of written place (bytes p texts) = atom_of (Bytes (join_with_byte 32 (map encode_utf8_all texts))) (Some (place p.first))

  -- the parts of a list or a vector
  pub parts_of : {A : Type 0} → (List ℕ → A) → (ℕ → Occ) → Data → Trees A
  parts_of written place none = no_trees
  parts_of written place (part d ds) = tree (tree_of written place d) (parts_of written place ds)
  parts_of written place (tail d) = no_trees

  -- the tail of a list
  pub end_of : {A : Type 0} → (List ℕ → A) → (ℕ → Occ) → Data → Tail A
  end_of written place none = proper
  end_of written place (part d ds) = end_of written place ds
  end_of written place (tail d) = dotted (tree_of written place d)

-- a datum as a form of a unit: a token's number counts from the form's first
abbrev pub form_of : ℕ → ℕ → Datum → Tree Identifier
form_of unit form d = tree_of (Written unit) (placed_in unit form (place_of d).first) d

-- the same of a text with another home: its symbols are written in the unit that takes it
abbrev pub form_as : (into : ℕ) → Home → Datum → Tree Identifier
form_as into h d = tree_of (Written into) (placed_by h) d
