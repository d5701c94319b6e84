use Rattle.std.proofs.Common.{◌≡◌, map, take}
use Rattle.datum_reader.specs.Views.{data_of}
use Rattle.text_parts.specs.declared.parts.TextPart.{TextPart}
use Rattle.read_documents.specs.DataRead.{items_in}
use Rattle.read_documents.specs.declared.documents.Document.{Document}
use Rattle.document_units.proofs.included.texts_of.Given as goal

abbrev pub invariant-loop-place : goal.invariant-loop-place
invariant-loop-place l = record {
  «data» : map (λ t. data_of t.«data».now) l.texts.items ≡ map (λ (c : Document). data_of (items_in c)) (take l.place l.documents);
  units : map (λ t. t.unit) l.texts.items ≡ map (λ (p : TextPart). p.program) (take l.place l.parts);
}
