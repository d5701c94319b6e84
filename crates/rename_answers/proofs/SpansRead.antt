-- The bytes of the tokens of documents that are read so.
use Rattle.std.proofs.Common.{◌≡◌, List, [], ◌∷◌, map, refl}
use Rattle.read_documents.specs.Places.{spans_of}
use Rattle.read_documents.specs.Readings.{Read, Reads, Stops, spans_in as read_spans}
use Rattle.rename_conditions.specs.Readers.{spans_in}
use Rattle.rename_answers.specs.ReadDocuments.{reading_of}

span_as : (r : Read) → spans_in (reading_of r) ≡ read_spans r
span_as (Reads uri ds spans) = refl
span_as (Stops uri f) = refl

pub spans_as : (rs : List Read) → map spans_in (map reading_of rs) ≡ spans_of rs
spans_as [] = refl
spans_as (r ∷ rs) = λ j. span_as r j ∷ spans_as rs j
