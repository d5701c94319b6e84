-- A text reads or stops.
use Rattle.std.proofs.Common.{refl, map}
use Rattle.datum_reader.specs.Views.{data_of}
use Rattle.read_documents.specs.Readings.{span_seen, Reads}
use Rattle.read_documents.proofs.documents.read_document.Goals as goal

pub returns-in-Ok-clause-document : goal.returns-in-Ok-clause-document
returns-in-Ok-clause-document c =
    let reading = c.in-Ok.ensures.found in
    c.document_of.ensures.document (Reads c.args.opened.uri.now (data_of c.in-Ok.items) (map span_seen c.in-Ok.spans.items))
    (reading.tokens, reading.spelled, c.in-Ok.ensures.spans reading.tokens reading.spelled, reading) refl (refl, refl, refl)

pub returns-in-Ok-clause-read : goal.returns-in-Ok-clause-read
returns-in-Ok-clause-read c = c.document_of.ensures.read c.in-Ok.ensures.read

pub returns-in-Err-At-clause-document : goal.returns-in-Err-At-clause-document
returns-in-Err-At-clause-document c = c.stopped.ensures.document (rw c.in-Err-At.field-0-is at c.in-Err-At.ensures.fault)
