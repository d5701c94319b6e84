-- The document that there is, as it is read.
use Rattle.std.proofs.Common.{sym}
use Rattle.read_documents.proofs.DocumentLaws.{document_added}
use Rattle.read_documents.proofs.documents.add_document.Goals as goal

pub returns-in_ok-push-clause-adds : goal.returns-in_ok-push-clause-adds
returns-in_ok-push-clause-adds c =
    document_added c.args.documents.now.items c.push.new.self.items _ _ (c.in_ok-read_document.field-0, c.in_ok-push.ensures.items, c.in_ok-read_document.ensures.document) (sym c.in-Some.ensures.exact)
