-- The tables with all names of a tree: each symbol and each identifier that isn't there yet, in the tree's order.
use Rattle.std.specs.Prelude.{ℕ, List}
use Rattle.scheme_model.specs.Trees.{Atom, Numeral, Quoted, Character, Boolean, Bytes, Tree, name, atom, list, vector, Trees, no_trees, tree, Tail, proper, dotted}
use Rattle.scheme_model.specs.Ident.{Ident as Identifier, Written, Inserted}
use Rattle.syntax_tree.specs.Names.{Names, with_symbol, with_ident}

abbrev pub symbol_in : List ℕ → Names → Names
symbol_in s names = record { symbols = with_symbol names.symbols s; idents = names.idents }

-- an identifier comes behind what it is made of
abbrev pub name_in : Identifier → Names → Names
name_in (Written u s) names = record { symbols = with_symbol names.symbols s; idents = with_ident names.idents (Written u s) }
name_in (Inserted i k) names = record { symbols = (name_in i names).symbols; idents = with_ident (name_in i names).idents (Inserted i k) }

-- the text of an atom is kept as a symbol
abbrev pub atom_in : Atom → Names → Names
atom_in (Numeral text) names = symbol_in text names
atom_in (Quoted text) names = symbol_in text names
atom_in (Character c) names = names
atom_in (Boolean b) names = names
atom_in (Bytes text) names = symbol_in text names

abbrev mutual
  pub interned : Tree Identifier → Names → Names
  interned (name i o) names = name_in i names
  interned (atom a o) names = atom_in a names
  interned (list ts tail o) names = tail_interned tail (all_interned ts names)
  interned (vector ts o) names = all_interned ts names

  pub all_interned : Trees Identifier → Names → Names
  all_interned no_trees names = names
  all_interned (tree t ts) names = all_interned ts (interned t names)

  pub tail_interned : Tail Identifier → Names → Names
  tail_interned proper names = names
  tail_interned (dotted t) names = interned t names
