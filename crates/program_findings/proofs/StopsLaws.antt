-- Documents that don't read have that alone, and what the code keeps of all documents.
use Rattle.std.proofs.Common.{◌≡◌, ◌<◌, ◌≤◌, ℕ, zero, suc, ◌+◌, List, [], ◌∷◌, map, length, slice_get, slice_set, Option, Some, None, BTreeMap, chars, refl, sym, ap, ◌∙◌, subst, arith}
use Rattle.std.proofs.lemmas.Option.{slice_get_within}
use Rattle.scheme_model.specs.Faults.{Stop}
use Rattle.scheme_model.specs.Diagnostics.{sorted, all_diagnostics}
use Rattle.datum_reader.proofs.Stops.{one_stop, never_reads_and_stops}
use Rattle.document_store.specs.Texts.{Document}
use Rattle.read_documents.specs.declared.documents.Document as code
use Rattle.read_documents.specs.declared.documents.Unread.{Unread}
use Rattle.read_documents.specs.Changed.{Changes}
use Rattle.read_documents.specs.Readings.{Read, Reads, Stops, IsReadAs, AreReadAs, IsReadSo, IsUnread, IsDocument, AreDocuments, program_in, spans_in}
use Rattle.scheme_model.specs.DiagnosticTexts.{worded}
use Rattle.read_documents.specs.Findings.{in_document, kept, AreKept}
use Rattle.read_documents.specs.Listed.{found_of, AreFoundOf}
use Rattle.read_documents.specs.Diagnosed.{TellsStop, TellsStopOf}
use Rattle.read_documents.proofs.ChangedLaws.{changes_itself, changes_set}

abbrev Map : Type 0
Map = BTreeMap (ℕ × ℕ × List ℕ) ℕ

-- ---- documents one by one

module _ (cs : List code.Document) where
  -- those up to a place tell, and the others are as they were
  abbrev pub ToldTo : ℕ → ℕ → Map → Map → Type 0
  ToldTo k n a b = (n < k → TellsStopOf (slice_get cs n) a b) × (k ≤ n → b ≡ a)

  pub none_told : (ms : List Map) → Changes (ToldTo 0) ms ms
  none_told ms = changes_itself (ToldTo 0) (λ n m. (λ lt. absurd (omega arith), λ le. refl)) ms

  pub more_told : (old now : List Map) (k j : ℕ) (c : code.Document) (m new : Map) → j ≡ suc k → slice_get cs k ≡ Some c → Changes (ToldTo k) old now → slice_get now k ≡ Some m → TellsStop c.fault m new → Changes (ToldTo j) old (slice_set now k new)
  more_told old now k j c m new next there told at tells =
      changes_set (ToldTo k) (ToldTo j) old now k m new told at (λ n a b apart h. (λ lt. h.0 (omega arith), λ le. h.1 (omega arith)))
      (λ a h. (λ lt. here a (h.1 (omega arith)), λ le. absurd (omega arith)))
    where
      here : (a : Map) → m ≡ a → TellsStopOf (slice_get cs k) a new
      here a same = subst (λ (o : Option code.Document). TellsStopOf o a new) (sym there) (subst (λ (x : Map). TellsStop c.fault x new) same tells)

  pub all_told : (old now : List Map) (k : ℕ) → length now ≤ k → Changes (ToldTo k) old now → Changes (λ n. TellsStopOf (slice_get cs n)) old now
  all_told old now k over told = record {
    size = told.size;
    each = λ n b at. let h = told.each n b at in (h.0, (h.1.0, h.1.1.0 (let lt = slice_get_within now n b at in omega arith)));
  }

-- ---- a document's fault is the one of its text

abbrev IsFaultOf : Option Unread → Read → Type 0
IsFaultOf u (Reads uri ds spans) = u ≡ None
IsFaultOf u (Stops uri f) = IsUnread u f

module _ (text : List ℕ) (c : code.Document) where
  told_as : (r q : Read) → IsReadSo c r → IsReadAs text r → IsReadAs text q → IsFaultOf c.fault q
  told_as (Reads uri ds spans) (Reads other es ss) so h k = so.2
  told_as (Reads uri ds spans) (Stops other g) so h k = absurd (never_reads_and_stops (chars text) ds g h.3 k)
  told_as (Stops uri f) (Reads other es ss) so h k = absurd (never_reads_and_stops (chars text) es f k.3 h)
  told_as (Stops uri f) (Stops other g) so h k = subst (λ (x : Stop). IsUnread c.fault x) (one_stop (chars text) f g h k) so.2

document_told : (d : List ℕ × Document) (c : code.Document) (r : Read) → IsDocument d c → IsReadAs d.1.1 r → IsFaultOf c.fault r
document_told d c r is rd = told_as d.1.1 c is.read r is.so is.is_read rd

document_of : (ds : List (List ℕ × Document)) (cs : List code.Document) (rs : List Read) → AreDocuments ds cs → AreReadAs ds rs → (n : ℕ) (r : Read) → slice_get rs n ≡ Some r →
    (c : code.Document) × (slice_get cs n ≡ Some c) × IsFaultOf c.fault r
document_of [] [] [] are rd n r at = absurd cc
document_of [] [] (q ∷ rs) are rd n r at = absurd rd
document_of [] (b ∷ cs) rs are rd n r at = absurd are
document_of (d ∷ ds) [] rs are rd n r at = absurd are
document_of (d ∷ ds) (b ∷ cs) [] are rd n r at = absurd rd
document_of (d ∷ ds) (b ∷ cs) (q ∷ rs) are rd zero r at = let same : q ≡ r = cc in (b, refl, subst (λ (x : Read). IsFaultOf b.fault x) same (document_told d b q are.0 rd.0))
document_of (d ∷ ds) (b ∷ cs) (q ∷ rs) are rd (suc n) r at = document_of ds cs rs are.1 rd.1 n r at

-- ---- what is kept of all documents

pub kept_of_all : (ds : List (List ℕ × Document)) (cs : List code.Document) (rs : List Read) → AreDocuments ds cs → AreReadAs ds rs → (old ms : List Map) →
    AreKept (all_diagnostics (map spans_in rs) (program_in rs) (program_in rs).units) old → Changes (λ n. TellsStopOf (slice_get cs n)) old ms → AreFoundOf rs ms
kept_of_all ds cs rs are rd old ms keeps told = λ n m r at there.
    let ch = told.each n m at in
    let d = document_of ds cs rs are rd n r there in
    tells n r d.0.fault d.2 ch.0 m (subst (λ (o : Option code.Document). TellsStopOf o ch.0 m) d.1 ch.1.1) (keeps n ch.0 ch.1.0)
  where
    tells : (n : ℕ) (r : Read) (u : Option Unread) → IsFaultOf u r → (o m : Map) → TellsStop u o m → o.entries ≡ map kept (in_document n (sorted (all_diagnostics (map spans_in rs) (program_in rs) (program_in rs).units))) → m.entries ≡ map kept (found_of rs n r)
    tells n (Reads uri es spans) u is o m h k = let same : m ≡ o = subst (λ (v : Option Unread). TellsStop v o m) is h in ap (λ (x : Map). x.entries) same ∙ k
    tells n (Stops uri f) None is o m h k = absurd is
    tells n (Stops uri f) (Some u) is o m h k = h ∙ (λ i. ((is.1 i, is.0 i, worded (is.0 i) []), is.2 i) ∷ [])
