-- The first document that doesn't read, by the faults that the code keeps.
use Rattle.std.proofs.Common.{◌≡◌, ◌≤◌, ℕ, zero, suc, List, [], ◌∷◌, length, drop, slice_get, Bool, true, false, Option, Some, None, is_some, refl, sym, ap, ◌∙◌, arith, chars}
use Rattle.scheme_model.specs.Faults.{Stop}
use Rattle.datum_reader.proofs.Stops.{never_reads_and_stops}
use Rattle.document_store.specs.Texts.{Document}
use Rattle.read_documents.specs.declared.documents.Document as code
use Rattle.read_documents.specs.declared.documents.Unread.{Unread}
use Rattle.read_documents.specs.Readings.{Read, Reads, Stops, IsReadAs, AreReadAs, IsReadSo, IsUnread, IsDocument, AreDocuments, first_unread}

abbrev stops : Read → Bool
stops (Reads u ds spans) = false
stops (Stops u f) = true

unread : (u : Option Unread) (f : Stop) → IsUnread u f → is_some u ≡ true
unread None f h = absurd h
unread (Some u) f h = refl

-- the fault tells whether the document stops
fault_tells : (c : code.Document) (r : Read) → IsReadSo c r → is_some c.fault ≡ stops r
fault_tells c (Reads u ds spans) so = ap is_some so.2
fault_tells c (Stops u f) so = unread c.fault f so.2

-- and so does each other reading
same_kind : (text : List ℕ) (r q : Read) → IsReadAs text r → IsReadAs text q → stops r ≡ stops q
same_kind text (Reads u ds spans) (Reads v es ss) h k = refl
same_kind text (Stops u f) (Stops v g) h k = refl
same_kind text (Reads u ds spans) (Stops v g) h k = absurd (never_reads_and_stops (chars text) ds g h.3 k)
same_kind text (Stops u f) (Reads v es ss) h k = absurd (never_reads_and_stops (chars text) es f k.3 h)

tells : (d : List ℕ × Document) (c : code.Document) (r : Read) → IsDocument d c → IsReadAs d.1.1 r → is_some c.fault ≡ stops r
tells d c r is rd = fault_tells c is.read is.so ∙ same_kind d.1.1 is.read r is.is_read rd

reads_on : (d : List ℕ × Document) (ds : List (List ℕ × Document)) (r : Read) (rs : List Read) → stops r ≡ false → first_unread (d ∷ ds) (r ∷ rs) ≡ first_unread ds rs
reads_on d ds (Reads u es spans) rs h = refl
reads_on d ds (Stops u f) rs h = cc

stops_here : (d : List ℕ × Document) (ds : List (List ℕ × Document)) (r : Read) (rs : List Read) → stops r ≡ true → first_unread (d ∷ ds) (r ∷ rs) ≡ Some d.0
stops_here d ds (Reads u es spans) rs h = cc
stops_here d ds (Stops u f) rs h = refl

pub goes_on : (ds : List (List ℕ × Document)) (cs : List code.Document) (rs : List Read) (k : ℕ) (c : code.Document) → AreDocuments ds cs → AreReadAs ds rs → slice_get cs k ≡ Some c → is_some c.fault ≡ false →
    first_unread (drop k ds) (drop k rs) ≡ first_unread (drop (suc k) ds) (drop (suc k) rs)
goes_on [] [] rs k c are rd at good = cc
goes_on [] (b ∷ cs) rs k c are rd at good = absurd are
goes_on (d ∷ ds) [] rs k c are rd at good = absurd are
goes_on (d ∷ ds) (b ∷ cs) [] k c are rd at good = absurd rd
goes_on (d ∷ ds) (b ∷ cs) (r ∷ rs) zero c are rd at good =
    let same : b ≡ c = cc in
    reads_on d ds r rs (sym (tells d b r are.0 rd.0) ∙ ap (λ (x : code.Document). is_some x.fault) same ∙ good)
goes_on (d ∷ ds) (b ∷ cs) (r ∷ rs) (suc k) c are rd at good = goes_on ds cs rs k c are.1 rd.1 at good

pub is_first : (ds : List (List ℕ × Document)) (cs : List code.Document) (rs : List Read) (k : ℕ) (c : code.Document) → AreDocuments ds cs → AreReadAs ds rs → slice_get cs k ≡ Some c → is_some c.fault ≡ true →
    Some c.uri ≡ first_unread (drop k ds) (drop k rs)
is_first [] [] rs k c are rd at bad = cc
is_first [] (b ∷ cs) rs k c are rd at bad = absurd are
is_first (d ∷ ds) [] rs k c are rd at bad = absurd are
is_first (d ∷ ds) (b ∷ cs) [] k c are rd at bad = absurd rd
is_first (d ∷ ds) (b ∷ cs) (r ∷ rs) zero c are rd at bad =
    let same : b ≡ c = cc in
    ap (λ (x : code.Document). Some x.uri) (sym same) ∙ ap Some are.0.uri
    ∙ sym (stops_here d ds r rs (sym (tells d b r are.0 rd.0) ∙ ap (λ (x : code.Document). is_some x.fault) same ∙ bad))
is_first (d ∷ ds) (b ∷ cs) (r ∷ rs) (suc k) c are rd at bad = is_first ds cs rs k c are.1 rd.1 at bad

pub none_is : (ds : List (List ℕ × Document)) (cs : List code.Document) (rs : List Read) (k : ℕ) → AreDocuments ds cs → length cs ≤ k → None ≡ first_unread (drop k ds) (drop k rs)
none_is [] [] rs zero are few = refl
none_is [] [] rs (suc k) are few = refl
none_is [] (b ∷ cs) rs k are few = absurd are
none_is (d ∷ ds) [] rs k are few = absurd are
none_is (d ∷ ds) (b ∷ cs) rs zero are few = absurd (omega arith)
none_is (d ∷ ds) (b ∷ cs) [] (suc k) are few = let less : length cs ≤ k = omega arith in no_readings (drop k ds)
  where
    no_readings : (es : List (List ℕ × Document)) → None ≡ first_unread es []
    no_readings [] = refl
    no_readings (e ∷ es) = refl
none_is (d ∷ ds) (b ∷ cs) (r ∷ rs) (suc k) are few = let less : length cs ≤ k = omega arith in none_is ds cs rs k are.1 less
