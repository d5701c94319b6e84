use Rattle.std.proofs.Common.{◌≡◌, map, take}
use Rattle.read_documents.specs.declared.documents.Document.{Document}
use Rattle.document_units.proofs.included.uris_of.Given as goal

abbrev pub invariant-loop-document : goal.invariant-loop-document
invariant-loop-document l = map (λ s. s.now) l.uris.items ≡ map (λ (c : Document). c.uri) (take l.document-index l.documents)
