-- A document that stops has no data.
use Rattle.std.proofs.Common.{refl}
use Rattle.read_documents.specs.Readings.{Stops, stop_of}
use Rattle.read_documents.proofs.DocumentLaws.{no_data}
use Rattle.read_documents.proofs.documents.stopped.Goals as goal

pub returns-clause-document : goal.returns-clause-document
returns-clause-document c = λ stops. c.document_of.ensures.document (Stops c.args.opened.uri.now (stop_of c.args.unread)) stops refl (c.new-items.ensures, c.new-spans.ensures.items, (refl, refl, refl))

pub returns-clause-read : goal.returns-clause-read
returns-clause-read c = c.document_of.ensures.read (no_data c.new-items.result c.new-items.ensures)
