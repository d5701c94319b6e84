-- The units of the documents as they are listed (R7RS 5.1, 5.6): what each is by what was read, before it is known of the others.
use Rattle.std.specs.Prelude.{◌≡◌, ℕ, List, [], ◌++◌, map, take, length, slice_get, Option, Some, None, if◌then◌else◌}
use Rattle.std.specs.Option.{option_map}
use Rattle.scheme_model.specs.Data.{Datum, place_of}
use Rattle.scheme_model.specs.Requirements.{LibraryName}
use Rattle.scheme_model.specs.Declarations as source
use Rattle.scheme_model.specs.Includes.{Document, max_units}
use Rattle.scheme_model.specs.IncludedUnits as included
use Rattle.scheme_model.specs.IncludedUnits.{Placed}
use Rattle.scheme_model.specs.Program.{prepared, imported_as, declared_fault, forms_or_none, units_of}
use Rattle.scheme_tokens.specs.LibraryNames.{library_text, IsProper}
use Rattle.core_tree.specs.Units.{kind_as, ranges_from}
use Rattle.unit_sources.specs.Sources.{AreUnits}
use Rattle.unit_sources.specs.UnitsRead.{forms_of}
use Rattle.unit_sources.specs.declared.units.UnitSource.{UnitSource}
use Rattle.read_documents.specs.Broken.{told, has_standard, IsListed, AreListed}
use Rattle.read_documents.specs.DataRead.{data_at}
use Rattle.document_units.specs.Listing.{Begins}
use Rattle.read_documents.specs.UnitSources.{IsSourceOf, AreReadOf}
use Rattle.read_documents.specs.declared.heads.WholeFault.{WholeFault}
use Rattle.read_documents.specs.declared.heads.Head.{Head}
use Rattle.document_units.specs.declared.listing.Units.{Units}
use Rattle.scheme_model.specs.Sites.{names_in_forms}
use Rattle.read_documents.specs.WereRead.{FormsRead}

-- proper names are written as they stand
abbrev pub WritesProper : (LibraryName → List ℕ) → Type 0
WritesProper spelled = (n : LibraryName) → IsProper n → spelled n ≡ library_text n

-- ---- one unit

-- the unit for a place was read among the data of a document: this is its library's name, its source, and what breaks it whatever the
-- others are
pub record IsReadAt (spelled : LibraryName → List ℕ) (ds : List Datum) (n : ℕ) (u : included.UnitSource) (called : Option (List ℕ)) (c : UnitSource) (broken : Option WholeFault) : Type 0 where
  pub name : called ≡ option_map library_text u.name
  pub spells : declared_fault n u.forms None ≡ None → called ≡ option_map spelled u.name
  pub bad : broken ≡ option_map told (declared_fault n u.forms None)
  pub named : c.name ≡ option_map spelled (imported_as 0 u)
  pub begins : Begins ds u c.span
  pub source : IsSourceOf spelled (prepared [] n (record { document = 0; source = u })) None c
  pub read : FormsRead (forms_of c.forms)

-- the same, however proper names are told apart by texts that write them as they stand
abbrev pub IsReadFor : List Datum → ℕ → included.UnitSource → Option (List ℕ) → UnitSource → Option WholeFault → Type 0
IsReadFor ds n u name c bad = (spelled : LibraryName → List ℕ) → WritesProper spelled → IsReadAt spelled ds n u name c bad

-- a unit with a standard name is imported by none
abbrev pub without_standard : UnitSource → UnitSource
without_standard c = if has_standard c.name then record c { name = None } else c

-- nothing is read of a unit but what kind it is
pub record IsBlank (c : UnitSource) : Type 0 where
  pub name : c.name ≡ None
  pub imports : c.imports ≡ []
  pub exports : c.exports ≡ []
  pub forms : c.forms ≡ []
  pub lost : c.lost ≡ []

-- a head tells what the unit of these documents with this number is
pub record IsToldBy (docs : List Document) (n : ℕ) (u : Placed) (h : Head) : Type 0 where
  pub document : h.document ≡ u.document
  pub kind : kind_as h.kind ≡ u.source.kind
  pub name : h.name ≡ option_map library_text u.source.name
  pub begins : Begins (data_at docs u.document) u.source h.span
  pub firsts : h.firsts.items ≡ map (λ f. (place_of f.datum).first) (forms_or_none u.source.forms)
  pub homes : h.homes.items ≡ map (λ f. source.unit_or n f.home) (forms_or_none u.source.forms)
  pub names : h.names.items ≡ names_in_forms n 0 (forms_or_none u.source.forms)
  pub ranges : h.ranges.items ≡ ranges_from n 0 (forms_or_none u.source.forms)

pub record IsOne (docs : List Document) (spelled : LibraryName → List ℕ) (n : ℕ) (u : Placed) (h : Head) (c : UnitSource) : Type 0 where
  pub told : IsToldBy docs n u h
  pub listed : IsListed spelled n u h
  pub named : c.name ≡ option_map spelled (imported_as 0 u.source)
  pub source : IsSourceOf spelled (prepared [] n u) None c
  pub read : FormsRead (forms_of c.forms)

-- ---- all of them

-- these are the units so far, each with its head and its source
pub record AreSoFar (docs : List Document) (spelled : LibraryName → List ℕ) (all : List Placed) (u : Units) : Type 0 where
  pub heads : length u.heads.items ≡ length all
  pub sources : length u.sources.items ≡ length all
  pub each : (n : ℕ) (p : Placed) (h : Head) (c : UnitSource) → slice_get all n ≡ Some p → slice_get u.heads.items n ≡ Some h → slice_get u.sources.items n ≡ Some c → IsOne docs spelled n p h c

-- a unit of a document
abbrev pub placed_in : ℕ → included.UnitSource → Placed
placed_in n u = record { document = n; source = u }

-- these units of a document were added
abbrev pub AddsUnits : List Document → (LibraryName → List ℕ) → ℕ → List included.UnitSource → Units → Units → Type 0
AddsUnits docs spelled document us old new = (all : List Placed) → AreSoFar docs spelled all old → AreSoFar docs spelled (all ++ map (placed_in document) us) new

abbrev pub AddsRead : List Document → ℕ → List included.UnitSource → Units → Units → Type 0
AddsRead docs document us old new = (spelled : LibraryName → List ℕ) → WritesProper spelled → AddsUnits docs spelled document us old new

-- these are all units of documents, as they are judged and expanded
pub record AreUnitsListed (spelled : LibraryName → List ℕ) (docs : List Document) (u : Units) : Type 0 where
  pub units : AreUnits spelled (take max_units u.sources.items) (take max_units (units_of docs))
  pub listed : AreListed spelled (units_of docs) u.heads.items
  pub read : AreReadOf spelled (units_of docs) u.sources.items
  pub told : (n : ℕ) (p : Placed) (h : Head) → slice_get (units_of docs) n ≡ Some p → slice_get u.heads.items n ≡ Some h → IsToldBy docs n p h
  pub forms : (n : ℕ) (c : UnitSource) → slice_get u.sources.items n ≡ Some c → FormsRead (forms_of c.forms)
