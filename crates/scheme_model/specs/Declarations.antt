-- What stands in a document (R7RS 5.1, 5.6.1): libraries with their declarations, and a program; and the forms of units.
use Rattle.std.specs.Prelude.{ℕ, zero, suc, ◌+◌, ◌==◌, nat_le, List, [], ◌∷◌, Bool, true, false, ◌&&◌, ◌||◌, Option, Some, None, Result, Ok, Err, codes, if◌then◌else◌}
use Rattle.std.specs.Option.{is_some}
use Rattle.std.specs.Str.{bytes_eq, encode_utf8_all}
use Rattle.scheme_model.specs.declared.Home.{Home}
use Rattle.scheme_model.specs.declared.Occ.{Occ}
use Rattle.scheme_model.specs.Kinds.{Leaf, Name, Numeral, Quoted, Character, Truth}
use Rattle.scheme_model.specs.Data.{Atom, spelled, implied, Datum, atom, list, vector, bytes, Data, none, part, tail, place_of}
use Rattle.scheme_model.specs.DataTrees.{mark_symbol, tree_of}
use Rattle.scheme_model.specs.Trees.{Tree}
use Rattle.scheme_model.specs.ExpansionFaults.{Fault}
use Rattle.scheme_model.specs.Requirements.{LibraryName, library_name_of}

-- ---- data by their heads

abbrev pub leaf_symbol : Leaf → Option (List ℕ)
leaf_symbol (Name s bars) = Some (encode_utf8_all s)
leaf_symbol (Numeral text) = None
leaf_symbol (Quoted text) = None
leaf_symbol (Character c) = None
leaf_symbol (Truth b) = None

-- what a mark implies is an identifier as any other
abbrev pub atom_symbol : Atom → Option (List ℕ)
atom_symbol (spelled leaf) = leaf_symbol leaf
atom_symbol (implied mark) = Some (mark_symbol mark)

-- the symbol that a datum is
abbrev pub symbol_in : Datum → Option (List ℕ)
symbol_in (atom p a) = atom_symbol a
symbol_in (list p ds) = None
symbol_in (vector p ds) = None
symbol_in (bytes p bs) = None

abbrev pub with_part : Datum → Option (List Datum) → Option (List Datum)
with_part d None = None
with_part d (Some ds) = Some (d ∷ ds)

-- the parts of a proper list
abbrev pub proper_parts : Data → Option (List Datum)
proper_parts none = Some []
proper_parts (part d ds) = with_part d (proper_parts ds)
proper_parts (tail d) = None

-- a datum as a tree of symbols, placed by the numbers of its tokens in the text
abbrev pub symbol_tree : Datum → Tree (List ℕ)
symbol_tree d = tree_of (λ s. s) (λ n. record { unit = 0; form = 0; token = n }) d

-- a list headed by a symbol
abbrev pub is_headed : List ℕ → Datum → Bool
is_headed s (atom p kind) = false
is_headed s (vector p ds) = false
is_headed s (bytes p bs) = false
is_headed s (list p none) = false
is_headed s (list p (tail d)) = false
is_headed s (list p (part d ds)) = is_symbol s (symbol_in d)
  where
    is_symbol : List ℕ → Option (List ℕ) → Bool
    is_symbol s None = false
    is_symbol s (Some t) = bytes_eq s t

-- ---- declarations

-- a form of a unit, whether it is an import or an export, or stands in the place of one, and the home of its text where that is
-- included
pub record UnitForm : Type 0 where
  pub datum : Datum
  pub declared : Bool
  pub home : Option Home

-- a form of the unit's own text
abbrev pub plain_form : Datum → UnitForm
plain_form d = record { datum = d; declared = false; home = None }

-- a text that isn't included is at home in its own unit
abbrev pub home_or : (unit form : ℕ) → Datum → Option Home → Home
home_or unit form d None = record { unit = unit; form = form; first = (place_of d).first }
home_or unit form d (Some h) = h

-- the unit where it is at home
abbrev pub unit_or : (unit : ℕ) → Option Home → ℕ
unit_or unit None = unit
unit_or unit (Some h) = h.unit

-- the home of the form with a number
abbrev pub home_of : (unit form : ℕ) → UnitForm → Home
home_of unit form f = home_or unit form f.datum f.home

-- an occurrence is that of a token of a datum whose text has this home
abbrev pub is_token_of : Home → Datum → Occ → Bool
is_token_of h d o = h.unit == o.unit && (h.form == o.form && (nat_le (place_of d).first (h.first + o.token) && nat_le (h.first + o.token) (place_of d).last))

-- an occurrence is that of a token of the n-th of forms that are numbered from one on
abbrev pub holds_at : (unit form : ℕ) → List UnitForm → (n : ℕ) → Occ → Bool
holds_at unit form [] n o = false
holds_at unit form (f ∷ fs) zero o = is_token_of (home_of unit form f) f.datum o
holds_at unit form (f ∷ fs) (suc n) o = holds_at unit (suc form) fs n o

-- the form of a unit with a number holds an occurrence
abbrev pub forms_hold : (unit : ℕ) → List UnitForm → (form : ℕ) → Occ → Bool
forms_hold unit fs form o = holds_at unit 0 fs form o

-- one of forms that are numbered from one on holds an occurrence
abbrev pub one_holds : (unit form : ℕ) → List UnitForm → Occ → Bool
one_holds unit form [] o = false
one_holds unit form (f ∷ fs) o = is_token_of (home_of unit form f) f.datum o || one_holds unit (suc form) fs o

abbrev pub all_names : List Datum → Bool
all_names [] = true
all_names (d ∷ ds) = is_name (symbol_in d) && all_names ds
  where
    is_name : Option (List ℕ) → Bool
    is_name None = false
    is_name (Some s) = true

-- `(rename id id)`
abbrev pub is_rename : Option (List Datum) → Bool
is_rename None = false
is_rename (Some []) = false
is_rename (Some (r ∷ [])) = false
is_rename (Some (r ∷ a ∷ [])) = false
is_rename (Some (r ∷ a ∷ b ∷ [])) = all_names (a ∷ b ∷ [])
is_rename (Some (r ∷ a ∷ b ∷ c ∷ ds)) = false

abbrev pub list_parts : Datum → Option (List Datum)
list_parts (atom p kind) = None
list_parts (list p ds) = proper_parts ds
list_parts (vector p ds) = None
list_parts (bytes p bs) = None

-- what an export may hold
abbrev pub is_export_part : Datum → Bool
is_export_part d = is_named (symbol_in d) || (is_headed (codes "rename") d && is_rename (list_parts d))
  where
    is_named : Option (List ℕ) → Bool
    is_named None = false
    is_named (Some s) = true

abbrev pub all_export_parts : List Datum → Bool
all_export_parts [] = true
all_export_parts (d ∷ ds) = is_export_part d && all_export_parts ds

-- what a declaration is by the symbol at its head
pub data Declared : Type 0 where
  Exports : Declared
  Imports : Declared
  Begins : Declared
  Chooses : Declared
  Includes : Declared
  Undeclared : Declared

abbrev pub declared_by : Option (List ℕ) → Declared
declared_by None = Undeclared
declared_by (Some s) =
    if bytes_eq s (codes "export") then Exports
    else if bytes_eq s (codes "import") then Imports
    else if bytes_eq s (codes "begin") then Begins
    else if bytes_eq s (codes "cond-expand") then Chooses
    else if bytes_eq s (codes "include") then Includes
    else if bytes_eq s (codes "include-ci") then Includes
    else if bytes_eq s (codes "include-library-declarations") then Includes
    else Undeclared

-- ---- units

-- a library, a program, or the program of a text that others include, which is worked on only there
pub data UnitKind : Type 0 where
  IsLibrary : UnitKind
  IsProgram : UnitKind
  IsPart : UnitKind

abbrev pub is_part_kind : UnitKind → Bool
is_part_kind IsLibrary = false
is_part_kind IsProgram = false
is_part_kind IsPart = true

abbrev pub name_or : {B : Type 0} → Result LibraryName (Fault B) → Option LibraryName
name_or (Ok n) = Some n
name_or (Err e) = None

abbrev pub behind_head : Datum → Data
behind_head (atom p kind) = none
behind_head (list p none) = none
behind_head (list p (tail d)) = none
behind_head (list p (part d ds)) = ds
behind_head (vector p ds) = none
behind_head (bytes p bs) = none

-- the name behind `define-library`
abbrev pub library_name_in : Data → Option LibraryName
library_name_in none = None
library_name_in (tail d) = None
library_name_in (part n ds) = name_or (library_name_of (λ s. s) (symbol_tree n))

abbrev pub library_name : Datum → Option LibraryName
library_name d = library_name_in (behind_head d)

abbrev pub is_library : Datum → Bool
is_library d = is_headed (codes "define-library") d

abbrev pub is_proper : Datum → Bool
is_proper d = is_some (list_parts d)

-- the names of a document's libraries
abbrev pub library_names : List Datum → List LibraryName
library_names [] = []
library_names (d ∷ ds) = if is_library d then named_first (library_name d) (library_names ds) else library_names ds
  where
    named_first : Option LibraryName → List LibraryName → List LibraryName
    named_first None ns = ns
    named_first (Some n) ns = n ∷ ns
