-- What units are read by: the documents, and the texts among them that can be included (R7RS 4.1.7, 5.6.1).
use Rattle.std.specs.Prelude.{◌≡◌, ◌<◌, ◌⊎◌, ℕ, List, [], ◌∷◌, length, slice_get, Some}
use Rattle.scheme_model.specs.Data.{Datum, place_of}
use Rattle.scheme_model.specs.Includes.{Document, naming, usable}
use Rattle.scheme_model.specs.Included.{Sources}
use Rattle.scheme_model.specs.IncludedUnits.{UnitSource, max_tokens, sources_within}
use Rattle.scheme_model.specs.Program.{known_in}
use Rattle.datum_reader.specs.FirstTokens.{first_token}
use Rattle.datum_reader.specs.Views.{data_of}
use Rattle.datum_reader.specs.declared.datum.Datum as code_datum
use Rattle.included_forms.specs.Built.{AreDocuments, IsTable}
use Rattle.ls_base.specs.declared.places.Span.{Span}
use Rattle.unit_sources.specs.declared.fault.LibraryFault.{LibraryFault}
use Rattle.unit_sources.specs.declared.fault.LibraryFault.TheVariants as library
use Rattle.text_parts.specs.Parts.{IsTextPart}
use Rattle.text_parts.specs.declared.parts.TextPart.{TextPart}
use Rattle.read_documents.specs.DataRead.{data_at, items_in, DocumentsRead}
use Rattle.read_documents.specs.declared.documents.Document as code_document
use Rattle.document_units.specs.declared.included.Reader.{Reader}
use Rattle.read_documents.specs.declared.heads.WholeFault.{WholeFault}
use Rattle.read_documents.specs.declared.heads.WholeFault.TheVariants as fault

-- ---- documents that include

-- documents, with what they include, by the libraries that there are
abbrev pub sources_of : List Document → Sources
sources_of ds = sources_within max_tokens (naming ds) (known_in ds) ds

-- units are read by these
pub record IsReader (o : Sources) (r : Reader) : Type 0 where
  pub usable : o.usable ≡ usable (naming o.documents) o.documents
  pub documents : AreDocuments o r.documents
  pub table : IsTable o r.table
  pub read : DocumentsRead o.documents

-- the document at a place has these data, and is this to the others
pub record IsAt (o : Sources) (place : ℕ) (items : List code_datum.Datum) (p : TextPart) : Type 0 where
  pub here : data_at o.documents place ≡ data_of items
  pub part : IsTextPart o.documents place p

-- the same of each document
abbrev pub AreAt : Sources → List code_document.Document → List TextPart → Type 0
AreAt o cs ps = (n : ℕ) (c : code_document.Document) (p : TextPart) → slice_get cs n ≡ Some c → slice_get ps n ≡ Some p → IsAt o n (items_in c) p

-- there are documents that it reads by, one more than this place
pub record CanReadIn (r : Reader) (place : ℕ) : Type 0 where
  pub sources : Sources
  pub reader : IsReader sources r
  pub below : place < length r.documents.uris.now

-- the same, and there are these data at the place
pub record CanRead (r : Reader) (place : ℕ) (items : List code_datum.Datum) (part : TextPart) : Type 0 where
  pub sources : Sources
  pub reader : IsReader sources r
  pub at : IsAt sources place items part
  pub below : place < length r.documents.uris.now

-- the same of all documents
pub record CanReadAll (r : Reader) (cs : List code_document.Document) (ps : List TextPart) : Type 0 where
  pub sources : Sources
  pub reader : IsReader sources r
  pub at : AreAt sources cs ps
  pub many : length r.documents.uris.now ≡ length cs

-- ---- where units begin

abbrev pub IsOneOf : List Datum → Datum → Type 0
IsOneOf [] d = ⊥
IsOneOf (e ∷ es) d = (e ≡ d) ⊎ IsOneOf es d

-- a unit begins with one of these data, whose first token has these bytes
pub record Begins (ds : List Datum) (u : UnitSource) (span : Span) : Type 0 where
  pub datum : Datum
  pub there : IsOneOf ds datum
  pub start : place_of datum ≡ u.start
  pub token : span ≡ first_token datum

-- these bytes are those of the first token of the first of these data
abbrev pub BeginsWith : Span → List Datum → Type 0
BeginsWith span [] = ⊥
BeginsWith span (d ∷ ds) = span ≡ first_token d

-- ---- what breaks units

-- why a unit couldn't be read, as what breaks it as a whole
abbrev pub IsWholeOf : LibraryFault → WholeFault → Type 0
IsWholeOf library.Memory w = ⊥
IsWholeOf (library.BadDeclaration unit span) w = w ≡ fault.BadDeclaration unit span
IsWholeOf library.TooManyTokens w = w ≡ fault.TooLarge
IsWholeOf (library.Cycle names) w = ⊥
IsWholeOf library.SameLibrary w = ⊥
IsWholeOf (library.NotDefined s) w = ⊥
IsWholeOf (library.SameExport s) w = ⊥
