-- Data of documents that were read from texts, and the documents that they are.
use Rattle.std.specs.Prelude.{◌≡◌, ◌<◌, ℕ, List, [], ◌∷◌, map, length, slice_get, Some, not, if◌then◌else◌}
use Rattle.std.specs.Option.{is_some}
use Rattle.scheme_model.specs.Data.{Datum}
use Rattle.scheme_model.specs.Includes as model
use Rattle.scheme_model.specs.Includes.{document_at}
use Rattle.datum_reader.specs.declared.datum.Datum as code
use Rattle.datum_reader.specs.Views.{datum_of, data_of}
use Rattle.datum_reader.specs.WellFormed.{WasRead}
use Rattle.included_documents.specs.Meant.{meant}
use Rattle.read_documents.specs.declared.documents.Document.{Document}

abbrev pub DataWereRead : List code.Datum → Type 0
DataWereRead ds = (n : ℕ) (d : code.Datum) → slice_get ds n ≡ Some d → WasRead (datum_of d)

-- the data of each document were read
abbrev pub AreReadIn : List Document → Type 0
AreReadIn cs = (n : ℕ) (c : Document) → slice_get cs n ≡ Some c → DataWereRead c.items

-- the data of a document, none where it doesn't read
abbrev pub items_in : Document → List code.Datum
items_in c = if is_some c.fault then [] else c.items

-- the data of documents are these; of one that doesn't read there are none
abbrev pub HaveData : List model.Document → List Document → Type 0
HaveData ds cs = map model.data_of ds ≡ map (λ (c : Document). data_of c.items) cs

-- the documents are these: their data, which of them read, and what their strings mean by their uris
pub record AreOpened (ds : List model.Document) (cs : List Document) : Type 0 where
  pub have : HaveData ds cs
  pub read : map (λ (d : model.Document). is_some d.read) ds ≡ map (λ (c : Document). not (is_some c.fault)) cs
  pub means : (n : ℕ) → n < length cs → (s : List ℕ) → (document_at ds n).meant s ≡ meant (map (λ (c : Document). c.uri) cs) n s

-- ---- documents of the definition

abbrev pub data_at : List model.Document → ℕ → List Datum
data_at ds n = model.data_of (document_at ds n)

abbrev pub AllRead : List Datum → Type 0
AllRead [] = Unit {0}
AllRead (d ∷ ds) = WasRead d × AllRead ds

-- the data of each were read
abbrev pub DocumentsRead : List model.Document → Type 0
DocumentsRead ds = (n : ℕ) → AllRead (data_at ds n)
