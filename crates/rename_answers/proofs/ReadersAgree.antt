-- What texts are by a reader is what they are as they are read.
use Rattle.std.proofs.Common.{◌≡◌, ℕ, suc, List, [], ◌∷◌, map, Option, Some, None, refl, sym, ap, ◌∙◌, chars}
use Rattle.scheme_model.specs.Data.{Datum}
use Rattle.scheme_model.specs.Kinds.{Token}
use Rattle.scheme_model.specs.Includes.{Document}
use Rattle.scheme_model.specs.Program.{Program, program_of, units_of}
use Rattle.scheme_model.specs.Spelling.{links_of}
use Rattle.datum_reader.proofs.ReadLaws.{one_reading}
use Rattle.datum_reader.proofs.Stops.{never_reads_and_stops}
use Rattle.datum_reader.proofs.TokensSeen.{text_once}
use Rattle.document_store.specs.Texts as store
use Rattle.included_documents.specs.Meant.{meant}
use Rattle.read_documents.specs.Readings.{Read, Reads, Stops, IsReadAs, AreReadAs, uri_of, data_in as read_data, documents_from as read_from, documents_in, program_in, span_of}
use Rattle.rename_conditions.specs.Opened.{Opened, documents_from, documents_read, opened, program_read}
use Rattle.rename_conditions.specs.Readers.{Reading, Reader, ReadsAs, IsReader, data_in}
use Rattle.rename_answers.specs.ReadDocuments.{reading_of, read_as}
use Rattle.rename_answers.specs.ToldRenames.{texts_of, uris_of}

abbrev D : Type 0
D = List ℕ × store.Document

-- a text has one reading
one : (text : List ℕ) (o : Option Reading) (r : Read) → ReadsAs text o → IsReadAs text r → o ≡ reading_of r
one text None (Reads uri ds spans) h k = absurd (h ds k.3)
one text None (Stops uri f) h k = refl
one text (Some o) (Stops uri f) h k = absurd (never_reads_and_stops (chars text) o.items f h.3 k)
one text (Some o) (Reads uri ds spans) h k =
    let items = one_reading (chars text) o.items ds h.3 k.3 in
    let tokens = (text_once (chars text) h.0 k.0 None None h.1 k.1).0 in
    let bytes = h.2 ∙ (ap (λ (ts : List Token). map span_of ts) tokens ∙ sym k.2) in
    λ j. Some (record { items = items j; spans = bytes j })

same_data : (r : Read) → data_in (reading_of r) ≡ read_data r
same_data (Reads uri ds spans) = refl
same_data (Stops uri f) = refl

-- documents are called by their uris
uris_are : (ds : List D) (rs : List Read) → AreReadAs ds rs → map uri_of rs ≡ uris_of ds
uris_are [] [] h = refl
uris_are [] (q ∷ rs) h = absurd h
uris_are (d ∷ ds) [] h = absurd h
uris_are (d ∷ ds) (q ∷ rs) h = let rest = uris_are ds rs h.1 in λ j. h.2 j ∷ rest j

-- documents by how they are read, and by what their strings mean
means_same : (m k : ℕ → List ℕ → Option ℕ) → ((n : ℕ) (s : List ℕ) → m n s ≡ k n s) → (n : ℕ) (rs : List Read) → documents_from m n (map reading_of rs) ≡ read_from k n rs
means_same m k same n [] = refl
means_same m k same n (q ∷ rs) = let first = same_data q in let rest = means_same m k same (suc n) rs in λ j. record { read = first j; meant = λ s. same n s j } ∷ rest j

module _ (r : Reader) (is : IsReader r) where
  readings_are : (ds : List D) (rs : List Read) → AreReadAs ds rs → map r.read (texts_of ds) ≡ map reading_of rs
  readings_are [] [] h = refl
  readings_are [] (q ∷ rs) h = absurd h
  readings_are (d ∷ ds) [] h = absurd h
  readings_are (d ∷ ds) (q ∷ rs) h =
      let first = one d.1.1 (r.read d.1.1) q (is.reads d.1.1) h.0 in let rest = readings_are ds rs h.1 in λ j. first j ∷ rest j

  pub documents_are : (ds : List D) (rs : List Read) → AreReadAs ds rs → documents_read r (uris_of ds) (texts_of ds) ≡ documents_in rs
  documents_are ds rs h =
      ap (documents_from (r.meant (uris_of ds)) 0) (readings_are ds rs h)
      ∙ means_same (r.meant (uris_of ds)) (meant (map uri_of rs)) (λ n s. is.means (uris_of ds) n s ∙ ap (λ us. meant us n s) (sym (uris_are ds rs h))) 0 rs

  -- open documents
  pub opened_is_read : (ds : List D) (rs : List Read) → AreReadAs ds rs → opened r (uris_of ds) (texts_of ds) ≡ read_as ds rs
  opened_is_read ds rs h = let readings = readings_are ds rs h in let documents = documents_are ds rs h in λ j. made (readings j) (documents j)
    where
      made : List (Option Reading) → List Document → Opened
      made readings documents =
          let units = units_of documents in let program = program_of documents in record {
            uris = uris_of ds;
            texts = texts_of ds;
            readings = readings;
            units = units;
            program = program;
            links = links_of units program;
          }

  -- and the program of texts
  pub program_is_read : (ds : List D) (rs : List Read) → AreReadAs ds rs → program_read r (uris_of ds) (texts_of ds) ≡ program_in rs
  program_is_read ds rs h = ap program_of (documents_are ds rs h)
