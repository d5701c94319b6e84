-- The units of documents that include texts (R7RS 4.1.7, 5.1, 5.6.1): the forms of each with their homes, or why it has none, and the
-- strings in it that mean no text.
use Rattle.std.specs.Prelude.{ℕ, suc, List, [], ◌∷◌, ◌++◌, map, Bool, true, ◌&&◌, Option, Some, None, Result, Ok, Err, codes, if◌then◌else◌, ◌^◌}
use Rattle.scheme_model.specs.Data.{Datum, Data, none, part, tail, Place, place_of}
use Rattle.scheme_model.specs.Requirements.{LibraryName, Known}
use Rattle.scheme_model.specs.Declarations.{UnitForm, plain_form, UnitKind, IsLibrary, IsProgram, IsPart, behind_head, library_name_in, library_name, is_headed, is_library, is_proper}
use Rattle.scheme_model.specs.Includes.{Document, data_of, Naming, naming, is_on_circle, is_part, usable, program_data}
use Rattle.scheme_model.specs.Included.{Homed, FlatForm, LostString, Listing, Lists, BadAfter, TooLong, Texts, bad, forms_of, declarations, Sources, all_texts}

-- ---- units

-- why a unit has no forms: its document is on a circle of documents that name one another, one of its declarations is bad, or its forms
-- have too many tokens
pub data EarlyFault : Type 0 where
  OnCircle : EarlyFault
  BadAt : Homed → EarlyFault
  TooManyTokens : EarlyFault

-- a unit: its library's name, its first token's place, its forms, and the strings in it that mean no text
pub record UnitSource : Type 0 where
  pub kind : UnitKind
  pub name : Option LibraryName
  pub start : Place
  pub forms : Result (List UnitForm) EarlyFault
  pub lost : List LostString

-- a unit with its document's place among the documents
pub record Placed : Type 0 where
  pub document : ℕ
  pub source : UnitSource

-- a form as a unit has it
abbrev pub unit_form : FlatForm → UnitForm
unit_form f = record { datum = f.source.datum; declared = f.declared; home = f.source.home }

abbrev pub source_by : UnitKind → Option LibraryName → Place → Listing → UnitSource
source_by kind name start (Lists n fs ls) = record { kind = kind; name = name; start = start; forms = Ok (map unit_form fs); lost = ls }
source_by kind name start (BadAfter n h) = record { kind = kind; name = name; start = start; forms = Err (BadAt h); lost = [] }
source_by kind name start TooLong = record { kind = kind; name = name; start = start; forms = Err TooManyTokens; lost = [] }

-- a unit in a document on a circle has no forms
abbrev pub unless_circular : Bool → UnitSource → UnitSource
unless_circular circular u = if circular then record u { forms = Err OnCircle; lost = [] } else u

-- a datum of a document's own text
abbrev pub own : (document : ℕ) → Datum → Homed
own document d = record { document = document; home = None; datum = d }

-- ---- libraries

abbrev pub if_named : Homed → Option LibraryName → Listing → Listing
if_named h None l = bad h
if_named h (Some n) l = l

-- what is declared behind a library's name; without a name the list itself is the bad declaration
abbrev pub library_listing : Texts → Known → Homed → Data → Listing
library_listing t known h none = bad h
library_listing t known h (tail d) = bad h
library_listing t known h (part n ds) = if_named h (library_name_in (part n ds)) (declarations t known h h.datum ds)

abbrev pub library_of : Texts → Known → (document : ℕ) → Datum → UnitSource
library_of t known document d = source_by IsLibrary (library_name d) (place_of d) (library_listing t known (own document d) (behind_head d))

abbrev pub libraries_in : Texts → Known → (document : ℕ) → List Datum → List UnitSource
libraries_in t known document [] = []
libraries_in t known document (d ∷ ds) =
    if is_library d then library_of t known document d ∷ libraries_in t known document ds else libraries_in t known document ds

-- ---- programs

-- the leading imports of a program are its imports
abbrev pub with_imports : List FlatForm → List FlatForm
with_imports [] = []
with_imports (f ∷ fs) =
    if is_headed (codes "import") f.source.datum && is_proper f.source.datum then record f { declared = true } ∷ with_imports fs else f ∷ fs

abbrev pub importing : Listing → Listing
importing (Lists n fs ls) = Lists n (with_imports fs) ls
importing (BadAfter n h) = BadAfter n h
importing TooLong = TooLong

-- the forms of a part's program are its data as they stand
abbrev pub part_of : Place → List Datum → UnitSource
part_of start ds = record { kind = IsPart; name = None; start = start; forms = Ok (map plain_form ds); lost = [] }

abbrev pub program_in : Texts → (document : ℕ) → (is_part : Bool) → List Datum → List UnitSource
program_in t document is_part [] = []
program_in t document is_part (d ∷ ds) =
    (if is_part then part_of (place_of d) (d ∷ ds) else source_by IsProgram None (place_of d) (importing (forms_of t (map (own document) (d ∷ ds))))) ∷ []

-- ---- documents

-- the units of a document: its libraries in their order, and then its program, which is all that is no library
abbrev pub units_in : Texts → Known → Naming → (document : ℕ) → List Datum → List UnitSource
units_in t known all document ds =
    map (unless_circular (is_on_circle all document)) (libraries_in t known document ds ++ program_in t document (is_part all document) (program_data ds))

abbrev pub units_from : Texts → Known → Naming → (document : ℕ) → List Document → List Placed
units_from t known all n [] = []
units_from t known all n (d ∷ ds) = map (λ u. record { document = n; source = u }) (units_in t known all n (data_of d)) ++ units_from t known all (suc n) ds

-- the most tokens that the forms of a unit have
abbrev pub max_tokens : ℕ
max_tokens = 2 ^ 20

abbrev pub sources_within : (limit : ℕ) → Naming → Known → List Document → Sources
sources_within limit all known ds = record { documents = ds; usable = usable all ds; known = known; limit = limit }

abbrev pub units_with : Sources → Naming → List Placed
units_with o all = units_from (all_texts o) o.known all 0 o.documents

abbrev pub units_within : (limit : ℕ) → Known → List Document → List Placed
units_within limit known ds = units_with (sources_within limit (naming ds) known ds) (naming ds)

-- the units of all documents in their order
abbrev pub included_units : Known → List Document → List Placed
included_units known ds = units_within max_tokens known ds
