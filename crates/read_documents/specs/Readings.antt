-- How the open documents are read (R7RS 7.1.2), and the program that they are (R7RS 5).
use Rattle.std.specs.Prelude.{◌≡◌, ℕ, suc, List, [], ◌∷◌, map, ◌++◌, Option, Some, None}
use Rattle.std.specs.Str.{chars}
use Rattle.scheme_model.specs.Data.{Datum}
use Rattle.scheme_model.specs.Faults.{Stop}
use Rattle.scheme_model.specs.Kinds.{Token}
use Rattle.scheme_model.specs.Includes as model
use Rattle.scheme_model.specs.Program as program
use Rattle.scheme_model.specs.Diagnostics.{Span}
use Rattle.macro_uses.specs.MacroUses.{program_uses}
use Rattle.datum_reader.specs.Texts.{TextReads, IsReading, StopsAt}
use Rattle.document_store.specs.Texts.{Document}
use Rattle.included_documents.specs.Meant.{meant}
use Rattle.datum_reader.specs.Views.{data_of}
use Rattle.text_positions.specs.Lines.{AreLinesOf}
use Rattle.datum_reader.specs.declared.datum.Datum as code_datum
use Rattle.ls_base.specs.declared.places.Span as code_span
use Rattle.read_documents.specs.declared.documents.Document as code
use Rattle.read_documents.specs.declared.documents.Unread.{Unread}

-- a document as it is read, with its uri: its data and the bytes of its tokens, or where it stops
pub data Read : Type 0 where
  Reads : (uri : List ℕ) → List Datum → List Span → Read
  Stops : (uri : List ℕ) → Stop → Read

abbrev pub uri_of : Read → List ℕ
uri_of (Reads uri ds spans) = uri
uri_of (Stops uri f) = uri

abbrev pub span_of : Token → Span
span_of t = record { start = t.start; end = t.end }

abbrev pub IsReadAs : List ℕ → Read → Type 0
IsReadAs text (Reads uri ds spans) = (ts : List Token) × TextReads (chars text) ts None × (spans ≡ map span_of ts) × IsReading (chars text) ds
IsReadAs text (Stops uri f) = StopsAt (chars text) f

-- documents with their uris, and how each is read
abbrev pub AreReadAs : List (List ℕ × Document) → List Read → Type 0
AreReadAs [] [] = Unit {0}
AreReadAs [] (r ∷ rs) = ⊥
AreReadAs (d ∷ ds) [] = ⊥
AreReadAs (d ∷ ds) (r ∷ rs) = IsReadAs d.1.1 r × AreReadAs ds rs × (uri_of r ≡ d.0)

abbrev pub data_in : Read → Option (List Datum)
data_in (Reads uri ds spans) = Some ds
data_in (Stops uri f) = None

-- readings as documents from a place on, each with what its strings mean
abbrev pub documents_from : (means : ℕ → List ℕ → Option ℕ) → ℕ → List Read → List model.Document
documents_from means n [] = []
documents_from means n (r ∷ rs) = record { read = data_in r; meant = means n } ∷ documents_from means (suc n) rs

-- readings as documents, whose strings mean others by their uris
abbrev pub documents_in : List Read → List model.Document
documents_in rs = documents_from (meant (map uri_of rs)) 0 rs

abbrev pub spans_in : Read → List Span
spans_in (Reads uri ds spans) = spans
spans_in (Stops uri f) = []

abbrev pub program_in : List Read → program.Program
program_in rs = program.program_of (documents_in rs)

-- the first document that doesn't read
abbrev pub first_unread : List (List ℕ × Document) → List Read → Option (List ℕ)
first_unread [] rs = None
first_unread (d ∷ ds) [] = None
first_unread (d ∷ ds) (Reads uri es spans ∷ rs) = first_unread ds rs
first_unread (d ∷ ds) (Stops uri f ∷ rs) = Some d.0

-- ---- documents of the code

abbrev pub span_seen : code_span.Span → Span
span_seen s = record { start = s.start; end = s.end }

abbrev pub stop_of : Unread → Stop
stop_of u = record { number = u.number; start = u.span.start; end = u.span.end }

abbrev pub IsUnread : Option Unread → Stop → Type 0
IsUnread None f = ⊥
IsUnread (Some u) f = (u.number ≡ f.number) × (u.span.start ≡ f.start) × (u.span.end ≡ f.end)

-- data, the bytes of tokens and a fault are those of a reading
abbrev pub IsToldSo : List code_datum.Datum → List code_span.Span → Option Unread → Read → Type 0
IsToldSo items bytes fault (Reads uri ds spans) = (data_of items ≡ ds) × (map span_seen bytes ≡ spans) × (fault ≡ None)
IsToldSo items bytes fault (Stops uri f) = (items ≡ []) × (bytes ≡ []) × IsUnread fault f

abbrev pub IsReadSo : code.Document → Read → Type 0
IsReadSo c read = IsToldSo c.items c.spans.items c.fault read

pub record IsDocument (d : List ℕ × Document) (c : code.Document) : Type 0 where
  pub uri : c.uri ≡ d.0
  pub version : c.version ≡ d.1.0
  pub lines : AreLinesOf c.lines d.1.1
  pub read : Read
  pub called : uri_of read ≡ d.0
  pub is_read : IsReadAs d.1.1 read
  pub so : IsReadSo c read

abbrev pub AreDocuments : List (List ℕ × Document) → List code.Document → Type 0
AreDocuments [] [] = Unit {0}
AreDocuments [] (c ∷ cs) = ⊥
AreDocuments (d ∷ ds) [] = ⊥
AreDocuments (d ∷ ds) (c ∷ cs) = IsDocument d c × AreDocuments ds cs

-- a document was added, where there is one
abbrev pub AddsDocument : List code.Document → List code.Document → Option (List ℕ × Document) → Type 0
AddsDocument old new None = new ≡ old
AddsDocument old new (Some d) = (c : code.Document) × (new ≡ old ++ c ∷ []) × IsDocument d c

-- the macro uses of the program of texts that are read so
abbrev pub uses_in : List Read → ℕ
uses_in rs = program_uses (documents_in rs)
