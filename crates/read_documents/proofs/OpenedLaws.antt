-- The documents that are opened are those that their texts are read as.
use Rattle.std.proofs.Common.{◌≡◌, ℕ, zero, suc, ◌+◌, ◌<◌, List, [], ◌∷◌, map, length, Option, Some, None, refl, sym, ap, ◌∙◌, chars, arith}
use Rattle.std.specs.Prelude.{not}
use Rattle.std.specs.Option.{is_some}
use Rattle.scheme_model.specs.Includes as model
use Rattle.scheme_model.specs.Includes.{document_at}
use Rattle.datum_reader.specs.Views.{data_of}
use Rattle.datum_reader.proofs.ReadLaws.{one_reading}
use Rattle.datum_reader.proofs.Stops.{never_reads_and_stops}
use Rattle.document_store.specs.Texts.{Document}
use Rattle.included_documents.specs.Meant.{meant}
use Rattle.read_documents.specs.DataRead.{HaveData, AreOpened}
use Rattle.read_documents.specs.declared.documents.Document as code
use Rattle.read_documents.specs.declared.documents.Unread.{Unread}
use Rattle.read_documents.specs.Readings.{Read, Reads, Stops, uri_of, IsReadAs, AreReadAs, IsReadSo, IsUnread, AreDocuments, data_in, documents_from, documents_in}

-- a document has one reading's data
same_data : (text : List ℕ) (c : code.Document) (q r : Read) → IsReadSo c q → IsReadAs text q → IsReadAs text r → model.or_none (data_in r) ≡ data_of c.items
same_data text c (Reads u ds spans) (Reads v es ss) so h k = one_reading (chars text) es ds k.3 h.3 ∙ sym so.0
same_data text c (Stops u f) (Stops v g) so h k = ap data_of (sym so.0)
same_data text c (Reads u ds spans) (Stops v g) so h k = absurd (never_reads_and_stops (chars text) ds g h.3 k)
same_data text c (Stops u f) (Reads v es ss) so h k = absurd (never_reads_and_stops (chars text) es f k.3 h)

unread : (o : Option Unread) (f : _) → IsUnread o f → not (is_some o) ≡ not (is_some (Some f))
unread None f h = absurd h
unread (Some u) f h = refl

-- and reads where that does
same_end : (text : List ℕ) (c : code.Document) (q r : Read) → IsReadSo c q → IsReadAs text q → IsReadAs text r → is_some (data_in r) ≡ not (is_some c.fault)
same_end text c (Reads u ds spans) (Reads v es ss) so h k = sym (ap (λ (o : Option Unread). not (is_some o)) so.2)
same_end text c (Stops u f) (Stops v g) so h k = sym (unread c.fault f so.2)
same_end text c (Reads u ds spans) (Stops v g) so h k = absurd (never_reads_and_stops (chars text) ds g h.3 k)
same_end text c (Stops u f) (Reads v es ss) so h k = absurd (never_reads_and_stops (chars text) es f k.3 h)

module _ (means : ℕ → List ℕ → Option ℕ) where
  data_same : (n : ℕ) (ds : List (List ℕ × Document)) (cs : List code.Document) (rs : List Read) → AreDocuments ds cs → AreReadAs ds rs → HaveData (documents_from means n rs) cs
  data_same n [] [] [] are read = refl
  data_same n [] [] (r ∷ rs) are read = absurd read
  data_same n [] (c ∷ cs) rs are read = absurd are
  data_same n (d ∷ ds) [] rs are read = absurd are
  data_same n (d ∷ ds) (c ∷ cs) [] are read = absurd read
  data_same n (d ∷ ds) (c ∷ cs) (r ∷ rs) are read =
      (λ j. same_data d.1.1 c are.0.read r are.0.so are.0.is_read read.0 j ∷ data_same (suc n) ds cs rs are.1 read.1 j)

  ends_same : (n : ℕ) (ds : List (List ℕ × Document)) (cs : List code.Document) (rs : List Read) → AreDocuments ds cs → AreReadAs ds rs →
      map (λ (d : model.Document). is_some d.read) (documents_from means n rs) ≡ map (λ (c : code.Document). not (is_some c.fault)) cs
  ends_same n [] [] [] are read = refl
  ends_same n [] [] (r ∷ rs) are read = absurd read
  ends_same n [] (c ∷ cs) rs are read = absurd are
  ends_same n (d ∷ ds) [] rs are read = absurd are
  ends_same n (d ∷ ds) (c ∷ cs) [] are read = absurd read
  ends_same n (d ∷ ds) (c ∷ cs) (r ∷ rs) are read =
      (λ j. same_end d.1.1 c are.0.read r are.0.so are.0.is_read read.0 j ∷ ends_same (suc n) ds cs rs are.1 read.1 j)

uris_same : (ds : List (List ℕ × Document)) (cs : List code.Document) (rs : List Read) → AreDocuments ds cs → AreReadAs ds rs → map uri_of rs ≡ map (λ (c : code.Document). c.uri) cs
uris_same [] [] [] are read = refl
uris_same [] [] (r ∷ rs) are read = absurd read
uris_same [] (c ∷ cs) rs are read = absurd are
uris_same (d ∷ ds) [] rs are read = absurd are
uris_same (d ∷ ds) (c ∷ cs) [] are read = absurd read
uris_same (d ∷ ds) (c ∷ cs) (r ∷ rs) are read = (λ j. (read.2 ∙ sym are.0.uri) j ∷ uris_same ds cs rs are.1 read.1 j)

-- a document's strings mean what they do by its place
meant_at : (means : ℕ → List ℕ → Option ℕ) (n : ℕ) (rs : List Read) (m : ℕ) (s : List ℕ) → m < length rs → (document_at (documents_from means n rs) m).meant s ≡ means (n + m) s
meant_at means n [] m s lt = absurd (omega arith)
meant_at means n (r ∷ rs) zero s lt = let same : n ≡ n + 0 = omega arith in ap (λ k. means k s) same
meant_at means n (r ∷ rs) (suc m) s lt = let same : suc n + m ≡ n + suc m = omega arith in meant_at means (suc n) rs m s (omega arith) ∙ ap (λ k. means k s) same

as_many : (ds : List (List ℕ × Document)) (cs : List code.Document) (rs : List Read) → AreDocuments ds cs → AreReadAs ds rs → length cs ≡ length rs
as_many [] [] [] are read = refl
as_many [] [] (r ∷ rs) are read = absurd read
as_many [] (c ∷ cs) rs are read = absurd are
as_many (d ∷ ds) [] rs are read = absurd are
as_many (d ∷ ds) (c ∷ cs) [] are read = absurd read
as_many (d ∷ ds) (c ∷ cs) (r ∷ rs) are read = ap suc (as_many ds cs rs are.1 read.1)

pub documents_opened : (ds : List (List ℕ × Document)) (cs : List code.Document) (rs : List Read) → AreDocuments ds cs → AreReadAs ds rs → AreOpened (documents_in rs) cs
documents_opened ds cs rs are read = record {
  have = data_same (meant (map uri_of rs)) 0 ds cs rs are read;
  read = ends_same (meant (map uri_of rs)) 0 ds cs rs are read;
  means = λ n lt s.
      meant_at (meant (map uri_of rs)) 0 rs n s (let many = as_many ds cs rs are read in omega arith)
      ∙ ap (λ k. meant (map uri_of rs) k s) (from_none n)
      ∙ ap (λ (uris : List (List ℕ)). meant uris n s) (uris_same ds cs rs are read);
}
  where
    from_none : (n : ℕ) → 0 + n ≡ n
    from_none n = omega arith
