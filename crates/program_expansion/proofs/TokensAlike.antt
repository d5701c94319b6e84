-- The tokens of documents are those of each reading of their texts.
use Rattle.std.proofs.Common.{◌≡◌, ℕ, List, [], ◌∷◌, map, chars, refl, sym, ap, ◌∙◌}
use Rattle.scheme_model.specs.Kinds.{Token}
use Rattle.datum_reader.proofs.Stops.{never_reads_and_stops}
use Rattle.datum_reader.proofs.TokensSeen.{text_once}
use Rattle.document_store.specs.Texts.{Document}
use Rattle.read_documents.specs.declared.documents.Document as code
use Rattle.read_documents.specs.Readings.{Read, Reads, Stops, IsReadAs, AreReadAs, IsReadSo, AreDocuments, span_of, span_seen, spans_in}
use Rattle.read_documents.specs.Places.{HaveTokens}
use Rattle.ls_base.specs.declared.places.Span as code_span

module _ (text : List ℕ) (c : code.Document) where
  alike : (r q : Read) → IsReadSo c r → IsReadAs text r → IsReadAs text q → map span_seen c.spans.items ≡ spans_in q
  alike (Reads u ds spans) (Reads v es ss) so h k = so.1 ∙ (h.2 ∙ (ap (λ (ts : List Token). map span_of ts) (text_once (chars text) h.0 k.0 _ _ h.1 k.1).0 ∙ sym k.2))
  alike (Reads u ds spans) (Stops v g) so h k = absurd (never_reads_and_stops (chars text) ds g h.3 k)
  alike (Stops u f) (Reads v es ss) so h k = absurd (never_reads_and_stops (chars text) es f k.3 h)
  alike (Stops u f) (Stops v g) so h k = ap (λ (ss : List code_span.Span). map span_seen ss) so.1

pub have_tokens : (ds : List (List ℕ × Document)) (cs : List code.Document) (rs : List Read) → AreDocuments ds cs → AreReadAs ds rs → HaveTokens cs rs
have_tokens [] [] [] are rd = refl
have_tokens [] [] (r ∷ rs) are rd = absurd rd
have_tokens [] (c ∷ cs) rs are rd = absurd are
have_tokens (d ∷ ds) [] rs are rd = absurd are
have_tokens (d ∷ ds) (c ∷ cs) [] are rd = absurd rd
have_tokens (d ∷ ds) (c ∷ cs) (r ∷ rs) are rd = λ i. alike d.1.1 c are.0.read r are.0.so are.0.is_read rd.0 i ∷ have_tokens ds cs rs are.1 rd.1 i

-- and so are their uris
pub uris_are : (ds : List (List ℕ × Document)) (cs : List code.Document) → AreDocuments ds cs → map (λ (c : code.Document). c.uri) cs ≡ map (λ d. d.0) ds
uris_are [] [] are = refl
uris_are [] (c ∷ cs) are = absurd are
uris_are (d ∷ ds) [] are = absurd are
uris_are (d ∷ ds) (c ∷ cs) are = λ i. are.0.uri i ∷ uris_are ds cs are.1 i
