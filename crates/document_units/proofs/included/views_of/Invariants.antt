use Rattle.std.proofs.Common.{◌≡◌, map, take}
use Rattle.std.specs.Prelude.{not}
use Rattle.std.specs.Option.{is_some}
use Rattle.datum_reader.specs.Views.{data_of}
use Rattle.read_documents.specs.DataRead.{items_in}
use Rattle.read_documents.specs.declared.documents.Document.{Document}
use Rattle.document_units.proofs.included.views_of.Given as goal

abbrev pub invariant-loop-document : goal.invariant-loop-document
invariant-loop-document l = record {
  «data» : map (λ v. data_of v.«data».now) l.views.items ≡ map (λ (c : Document). data_of (items_in c)) (take l.document-index l.documents);
  reads : map (λ v. v.reads) l.views.items ≡ map (λ (c : Document). not (is_some c.fault)) (take l.document-index l.documents);
}
