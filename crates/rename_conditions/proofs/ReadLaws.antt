-- Each text reads in one way, or doesn't read.
use Rattle.std.proofs.Common.{ℕ, ◌⊎◌, List, map, Option, Some, None, refl, inl, inr}
use Rattle.std.specs.Str.{chars}
use Rattle.scheme_model.specs.Data.{Datum}
use Rattle.scheme_model.specs.Faults.{Stop}
use Rattle.datum_reader.specs.Texts.{IsReading, StopsAt}
use Rattle.datum_reader.proofs.Stops.{every_text, never_reads_and_stops}
use Rattle.text_edits.specs.NewNames.{span_of}
use Rattle.rename_conditions.specs.Readers.{Reading, ReadsAs}

abbrev read_by : (text : List ℕ) → ((ds : List Datum) × IsReading (chars text) ds) ⊎ ((e : Stop) × StopsAt (chars text) e) → Option Reading
read_by text (inl h) = Some (record { items = h.0; spans = map span_of h.1.tokens })
read_by text (inr h) = None

reads_by : (text : List ℕ) (s : ((ds : List Datum) × IsReading (chars text) ds) ⊎ ((e : Stop) × StopsAt (chars text) e)) → ReadsAs text (read_by text s)
reads_by text (inl h) = (h.1.tokens, h.1.spelled, refl, h.1)
reads_by text (inr h) = λ ds k. never_reads_and_stops (chars text) ds h.0 k h.1

pub texts_are_read : (read : List ℕ → Option Reading) × ((text : List ℕ) → ReadsAs text (read text))
texts_are_read = (λ text. read_by text (every_text (chars text)), λ text. reads_by text (every_text (chars text)))
