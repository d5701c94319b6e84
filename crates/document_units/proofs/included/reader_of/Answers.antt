-- The reader has what it is made of.
use Rattle.std.proofs.Common.{map, sym, ap, ◌∙◌}
use Rattle.text_parts.specs.declared.parts.TextPart.{TextPart}
use Rattle.included_forms.specs.Built.{AreDocuments}
use Rattle.document_units.proofs.ReaderLaws.{usable_by}
use Rattle.document_units.proofs.included.reader_of.Goals as goal

pub returns-clause-reader : goal.returns-clause-reader
returns-clause-reader c = λ o limit whole knows mean read texts many told.
    let ps = c.args.parts.now.documents.items in
    let documents : AreDocuments o (record { limit = 1048576; known = c.args.known; uris = c.args.uris; texts = c.args.texts }) = record { limit = sym limit; known = knows; meant = mean; texts = texts } in
    let marks = c.as_slice-3.ensures.value ∙ c.in_ok-usable.ensures ∙ ap (map (λ (p : TextPart). p.is_usable)) c.as_slice.ensures.value in
    record {
      usable = whole;
      documents = documents;
      table = c.in_ok-table.ensures o documents (usable_by o ps c.as_slice-3.result.now whole many told marks);
      read = read;
    }
