-- What belongs to the open documents: what they are read as, where their units and the first Errors of these stand, and their program.
use Rattle.std.specs.Prelude.{◌≡◌, ℕ, ◌<◌, List, length, slice_get, Option, Some, None}
use Rattle.std.specs.FinMap.{entries}
use Rattle.document_store.specs.Texts.{Texts}
use Rattle.read_documents.specs.declared.documents.Document.{Document}
use Rattle.read_documents.specs.declared.findings.At as code_at
use Rattle.read_documents.specs.declared.heads.Head.{Head}
use Rattle.read_documents.specs.Readings.{AreDocuments, AreReadAs, Read, program_in}
use Rattle.read_documents.specs.Places.{AreHeads, AreHeadsIn, HaveTokens}
use Rattle.read_documents.specs.UnitFindings.{AreFirstErrors}

-- the first Errors of units, where they have one, stand in so many documents
abbrev pub AreErrorsIn : ℕ → List (Option (code_at.At × ℕ)) → Type 0
AreErrorsIn count es = (n : ℕ) (a : code_at.At) (code : ℕ) → slice_get es n ≡ Some (Some (a, code)) → a.document < count

-- an Error, where there is a unit and it has one
abbrev pub error_in : Option (Option (code_at.At × ℕ)) → Option (code_at.At × ℕ)
error_in None = None
error_in (Some e) = e

-- where documents are read so, units and the first Errors of these are those of their program
pub record AreUnitsIn (rs : List Read) (cs : List Document) (hs : List Head) (es : List (Option (code_at.At × ℕ))) : Type 0 where
  pub tokens : HaveTokens cs rs
  pub heads : AreHeads rs 0 hs (program_in rs).units
  pub errors : AreFirstErrors rs (program_in rs) es

-- the documents are those of the texts, and the units stand in them
pub record Belongs (texts : Texts) (cs : List Document) (hs : List Head) (es : List (Option (code_at.At × ℕ))) : Type 0 where
  pub documents : AreDocuments (entries texts) cs
  pub heads : AreHeadsIn (length cs) hs
  pub errors : AreErrorsIn (length cs) es
  pub units : (rs : List Read) → AreReadAs (entries texts) rs → AreUnitsIn rs cs hs es
