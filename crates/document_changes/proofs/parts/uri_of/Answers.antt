-- The document is there.
use Rattle.std.proofs.Common.{length, refl, sym, ap, ◌∙◌}
use Rattle.std.proofs.lemmas.Option.{slice_get_read}
use Rattle.read_documents.specs.declared.documents.Document.{Document}
use Rattle.document_changes.proofs.PartMarks.{uri_there}
use Rattle.document_changes.proofs.parts.uri_of.Goals as goal

pub returns : goal.returns
returns c =
    let cs = c.args.documents.now in
    let d = c.index-documents-place.result in
    ap (λ (x : Document). x.uri) (sym c.index-documents-place.is) ∙ sym (uri_there (λ (x : Document). x.uri) cs c.args.place d (slice_get_read cs (length cs) c.args.place d refl c.requires c.index-documents-place.is))
