-- Trees whose leaves are names of a kind, with the occurrences that they were read at.
use Rattle.std.specs.Prelude.{ℕ, ◌-◌, Bool, List, Option}
use Rattle.scheme_model.specs.declared.Occ.{Occ}
use Rattle.scheme_model.specs.declared.Home.{Home}

-- an atom that isn't an identifier (R7RS 7.1.2): a numeral as written, a string by its characters in UTF-8, a character by
-- its code, a truth value, or a bytevector by its numerals as written, with one space between each two
pub data Atom : Type 0 where
  Numeral : (text : List ℕ) → Atom
  Quoted : (characters : List ℕ) → Atom
  Character : (code : ℕ) → Atom
  Boolean : Bool → Atom
  Bytes : (numerals : List ℕ) → Atom

-- an identifier, another atom, a list with its tail, or a vector; each with its place, where it was read from a text
mutual
  pub data Tree (A : Type 0) : Type 0 where
    name : A → Option Occ → Tree A
    atom : Atom → Option Occ → Tree A
    list : Trees A → Tail A → Option Occ → Tree A
    vector : Trees A → Option Occ → Tree A

  pub data Trees (A : Type 0) : Type 0 where
    no_trees : Trees A
    tree : Tree A → Trees A → Trees A

  pub data Tail (A : Type 0) : Type 0 where
    proper : Tail A
    dotted : Tree A → Tail A

-- each name changed
abbrev mutual
  pub map_tree : {A B : Type 0} → (A → B) → Tree A → Tree B
  map_tree f (name i o) = name (f i) o
  map_tree f (atom a o) = atom a o
  map_tree f (list ts tail o) = list (map_trees f ts) (map_tail f tail) o
  map_tree f (vector ts o) = vector (map_trees f ts) o

  pub map_trees : {A B : Type 0} → (A → B) → Trees A → Trees B
  map_trees f no_trees = no_trees
  map_trees f (tree t ts) = tree (map_tree f t) (map_trees f ts)

  pub map_tail : {A B : Type 0} → (A → B) → Tail A → Tail B
  map_tail f proper = proper
  map_tail f (dotted t) = dotted (map_tree f t)

-- a token of a form of a unit, where the form's first token has this number in the text
abbrev pub placed_in : ℕ → ℕ → ℕ → ℕ → Occ
placed_in unit form first n = record { unit = unit; form = form; token = n - first }

-- the same by the home of the form's text
abbrev pub placed_by : Home → ℕ → Occ
placed_by h n = placed_in h.unit h.form h.first n
