-- The tokens of an open document are those of each reading of its text, and edits of them can be made.
use Rattle.std.proofs.Common.{◌≡◌, ◌<◌, ℕ, zero, suc, arith, List, [], ◌∷◌, map, length, Option, None, sym, ap, ◌∙◌, subst}
use Rattle.std.specs.Str.{chars, IsUtf8}
use Rattle.std.proofs.lemmas.Str.{IsCharBoundary-start}
use Rattle.ls_base.specs.declared.places.Span as code_span
use Rattle.scheme_model.specs.Diagnostics.{spans_at}
use Rattle.scheme_model.specs.Kinds.{Token}
use Rattle.datum_reader.specs.Texts.{TextReads}
use Rattle.datum_reader.proofs.Stops.{never_reads_and_stops}
use Rattle.datum_reader.proofs.TokensSeen.{text_once}
use Rattle.document_store.specs.Texts.{Document}
use Rattle.read_documents.specs.declared.documents.Document as code
use Rattle.read_documents.specs.Places.{spans_of}
use Rattle.read_documents.specs.Readings.{AreReadAs, IsDocument, IsReadAs, IsReadSo, Read, Reads, Stops, span_of, span_seen, spans_in}
use Rattle.program_answers.specs.ToldAnswers.{document_at}
use Rattle.text_edits.specs.NewNames.{edits_of}
use Rattle.text_edits.specs.Views.{AreCuts, CanEdit, edit_of}
use Rattle.text_edits.specs.declared.edits.Edit as edit

module _ (text : List ℕ) (c : code.Document) where
  alike : (r q : Read) → IsReadSo c r → IsReadAs text r → IsReadAs text q → map span_seen c.spans.items ≡ spans_in q
  alike (Reads u ds spans) (Reads v es ss) so h k = so.1 ∙ (h.2 ∙ (ap (λ (ts : List Token). map span_of ts) (text_once (chars text) h.0 k.0 _ _ h.1 k.1).0 ∙ sym k.2))
  alike (Reads u ds spans) (Stops v g) so h k = absurd (never_reads_and_stops (chars text) ds g h.3 k)
  alike (Stops u f) (Reads v es ss) so h k = absurd (never_reads_and_stops (chars text) es f k.3 h)
  alike (Stops u f) (Stops v g) so h k = ap (λ (ss : List code_span.Span). map span_seen ss) so.1

  pub can_make : (read : Read) → IsReadAs text read → IsReadSo c read → IsUtf8 text → (new : ℕ → Option (List ℕ)) (es : List edit.Edit) → map edit_of es ≡ edits_of new text (map span_seen c.spans.items) →
      ((ts : List Token) → TextReads (chars text) ts None → map span_seen c.spans.items ≡ map span_of ts → CanEdit text es) → CanEdit text es
  can_make (Reads uri ds spans) h so utf8 new es is made = made h.0 h.1 (so.1 ∙ h.2)
  can_make (Stops uri f) h so utf8 new es is made =
      let none : map edit_of es ≡ [] = is ∙ ap (λ (ss : List code_span.Span). edits_of new text (map span_seen ss)) so.1 in
      record { cuts = subst (AreCuts text 0) (sym none) (IsCharBoundary-start text utf8) }

pub spans_are : (ds : List (List ℕ × Document)) (rs : List Read) (n : ℕ) (c : code.Document) → AreReadAs ds rs → n < length ds → IsDocument (document_at ds n) c → map span_seen c.spans.items ≡ spans_at (spans_of rs) n
spans_are [] rs n c are lt is = absurd (omega (arith, lt))
spans_are (d ∷ ds) [] n c are lt is = absurd are
spans_are (d ∷ ds) (r ∷ rs) zero c are lt is = alike d.1.1 c is.read r is.so is.is_read are.0
spans_are (d ∷ ds) (r ∷ rs) (suc n) c are lt is = spans_are ds rs n c are.1 (omega (arith, lt)) is
