-- Lists that include other texts (R7RS 4.1.7, 5.6.1), which documents name which, and which of them are parts of others.
use Rattle.std.specs.Prelude.{ℕ, zero, suc, ◌+◌, ◌==◌, nat_lt, List, [], ◌∷◌, ◌++◌, map, filter, length, Bool, not, ◌&&◌, ◌||◌, Option, Some, None, codes, if◌then◌else◌}
use Rattle.std.specs.Option.{is_some}
use Rattle.std.specs.List.{list_any, flat_map}
use Rattle.std.specs.Str.{encode_utf8_all}
use Rattle.scheme_model.specs.Kinds.{Leaf, Name, Numeral, Quoted, Character, Truth}
use Rattle.scheme_model.specs.Data.{spelled, implied, Datum, atom, list, vector, bytes, Data, none, part, tail, Place}
use Rattle.scheme_model.specs.Declarations.{is_headed, list_parts, is_library}

-- ---- lists that include

-- a string of a text, and where it stands there
pub record StringAt : Type 0 where
  pub place : Place
  pub characters : List ℕ

abbrev pub quoted_in : Leaf → Option (List ℕ)
quoted_in (Name s bars) = None
quoted_in (Numeral text) = None
quoted_in (Quoted text) = Some (encode_utf8_all text)
quoted_in (Character c) = None
quoted_in (Truth b) = None

abbrev pub string_at : Place → Option (List ℕ) → Option StringAt
string_at p None = None
string_at p (Some s) = Some (record { place = p; characters = s })

abbrev pub string_in : Datum → Option StringAt
string_in (atom p (spelled leaf)) = string_at p (quoted_in leaf)
string_in (atom p (implied mark)) = None
string_in (list p ds) = None
string_in (vector p ds) = None
string_in (bytes p bs) = None

abbrev pub with_string : Option StringAt → Option (List StringAt) → Option (List StringAt)
with_string None ss = None
with_string (Some s) None = None
with_string (Some s) (Some ss) = Some (s ∷ ss)

-- what stands behind the head: one string or more, and nothing else
abbrev pub strings_of : List Datum → Option (List StringAt)
strings_of [] = None
strings_of (d ∷ ds) = with_string (string_in d) (all_strings ds)
  where
    all_strings : List Datum → Option (List StringAt)
    all_strings [] = Some []
    all_strings (d ∷ ds) = with_string (string_in d) (all_strings ds)

abbrev pub strings_behind : Option (List Datum) → Option (List StringAt)
strings_behind None = None
strings_behind (Some []) = None
strings_behind (Some (head ∷ ds)) = strings_of ds

-- the strings of a proper list that is headed by this symbol and holds nothing but strings behind it
abbrev pub included_by : List ℕ → Datum → Option (List StringAt)
included_by word d = if is_headed word d then strings_behind (list_parts d) else None

-- `(include "name" ...)`
abbrev pub includes : Datum → Option (List StringAt)
includes d = included_by (codes "include") d

-- `(include-library-declarations "name" ...)`
abbrev pub includes_declarations : Datum → Option (List StringAt)
includes_declarations d = included_by (codes "include-library-declarations") d

abbrev pub or_none : {A : Type 0} → Option (List A) → List A
or_none None = []
or_none (Some xs) = xs

-- the strings of all such lists in a datum, however deep
abbrev mutual
  pub strings_in : Datum → List StringAt
  strings_in (atom p a) = []
  strings_in (list p ds) = or_none (includes (list p ds)) ++ or_none (includes_declarations (list p ds)) ++ strings_in_all ds
  strings_in (vector p ds) = strings_in_all ds
  strings_in (bytes p bs) = []

  pub strings_in_all : Data → List StringAt
  strings_in_all none = []
  strings_in_all (part d ds) = strings_in d ++ strings_in_all ds
  strings_in_all (tail d) = strings_in d

-- ---- documents

-- a document: its data, where it reads, and which document each string means in it, by its place among them
pub record Document : Type 0 where
  pub read : Option (List Datum)
  pub meant : List ℕ → Option ℕ

abbrev pub data_of : Document → List Datum
data_of d = or_none d.read

abbrev pub no_document : Document
no_document = record { read = None; meant = λ s. None }

abbrev pub document_at : List Document → ℕ → Document
document_at [] n = no_document
document_at (d ∷ ds) zero = d
document_at (d ∷ ds) (suc n) = document_at ds n

abbrev pub all_meant : Document → List StringAt → List ℕ
all_meant d [] = []
all_meant d (s ∷ ss) = with_meant (d.meant s.characters) (all_meant d ss)
  where
    with_meant : Option ℕ → List ℕ → List ℕ
    with_meant None ms = ms
    with_meant (Some m) ms = m ∷ ms

-- the documents that a document names
abbrev pub names_of : Document → List ℕ
names_of d = all_meant d (flat_map strings_in (data_of d))

-- which documents each document names
abbrev pub Naming : Type 0
Naming = List (List ℕ)

abbrev pub naming : List Document → Naming
naming ds = map names_of ds

abbrev pub is_among : List ℕ → ℕ → Bool
is_among ns n = list_any (λ m. m == n) ns

abbrev pub named_by : Naming → ℕ → List ℕ
named_by [] n = []
named_by (ns ∷ rest) zero = ns
named_by (ns ∷ rest) (suc n) = named_by rest n

-- the documents from a place on that are among these or that one of them names
abbrev pub with_named : Naming → (place : ℕ) → Naming → List ℕ → List ℕ
with_named all n [] ns = []
with_named all n (r ∷ rest) ns =
    if is_among ns n || list_any (λ m. is_among (named_by all m) n) ns then n ∷ with_named all (suc n) rest ns
    else with_named all (suc n) rest ns

-- what documents name, directly or not, in so many steps
abbrev pub names_on : Naming → ℕ → List ℕ → List ℕ
names_on all zero ns = ns
names_on all (suc steps) ns = names_on all steps (with_named all 0 all ns)

-- a document that names itself, directly or not
abbrev pub is_on_circle : Naming → ℕ → Bool
is_on_circle all n = is_among (names_on all (length all) (named_by all n)) n

-- a document that another one names and that isn't on a circle
abbrev pub is_part : Naming → ℕ → Bool
is_part all n = list_any (λ ns. is_among ns n) all && not (is_on_circle all n)

-- ---- programs of documents

-- the data that aren't libraries
abbrev pub program_data : List Datum → List Datum
program_data ds = filter (λ d. not (is_library d)) ds

abbrev pub has_program : List Datum → Bool
has_program ds = nat_lt 0 (length (program_data ds))

abbrev pub unit_count : List Datum → ℕ
unit_count ds = length (filter is_library ds) + (if has_program ds then 1 else 0)

-- the place of a document's program among the units of all documents
abbrev pub program_number : List Document → ℕ → ℕ
program_number [] n = 0
program_number (d ∷ ds) zero = length (filter is_library (data_of d))
program_number (d ∷ ds) (suc n) = unit_count (data_of d) + program_number ds n

-- the most units
abbrev pub max_units : ℕ
max_units = 128

-- a part that reads, and whose program isn't behind the most units
abbrev pub is_usable : Naming → List Document → ℕ → Bool
is_usable all ds n =
    is_part all n && (is_some (document_at ds n).read && (not (has_program (data_of (document_at ds n))) || nat_lt (program_number ds n) max_units))

abbrev pub usable_from : Naming → List Document → ℕ → List Document → List ℕ
usable_from all ds n [] = []
usable_from all ds n (d ∷ rest) = if is_usable all ds n then n ∷ usable_from all ds (suc n) rest else usable_from all ds (suc n) rest

-- the documents that can be included
abbrev pub usable : Naming → List Document → List ℕ
usable all ds = usable_from all ds 0 ds
