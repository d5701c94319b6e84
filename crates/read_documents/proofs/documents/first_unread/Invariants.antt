use Rattle.std.proofs.Common.{◌≡◌, ℕ, List, drop}
use Rattle.document_store.specs.Texts.{Document as Entry}
use Rattle.read_documents.specs.Readings.{Read, AreReadAs, AreDocuments, first_unread}
use Rattle.read_documents.proofs.documents.first_unread.Given as goal

-- the documents gone through read
abbrev pub invariant-loop-document : goal.invariant-loop-document
invariant-loop-document l = (ds : List (List ℕ × Entry)) (rs : List Read) → AreDocuments ds l.documents → AreReadAs ds rs →
    first_unread ds rs ≡ first_unread (drop l.document-index ds) (drop l.document-index rs)
