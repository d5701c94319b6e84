-- The open documents with their program, by how they are read.
use Rattle.std.specs.Prelude.{ℕ, List, map, Option, Some, None}
use Rattle.scheme_model.specs.Program.{units_of}
use Rattle.scheme_model.specs.Spelling.{links_of}
use Rattle.document_store.specs.Texts.{Document}
use Rattle.read_documents.specs.Readings.{Read, Reads, Stops, documents_in, program_in}
use Rattle.rename_conditions.specs.Opened.{Opened}
use Rattle.rename_conditions.specs.Readers.{Reading}
use Rattle.rename_answers.specs.ToldRenames.{texts_of, uris_of}

abbrev pub reading_of : Read → Option Reading
reading_of (Reads uri ds spans) = Some (record { items = ds; spans = spans })
reading_of (Stops uri f) = None

abbrev pub read_as : List (List ℕ × Document) → List Read → Opened
read_as ds rs =
    let units = units_of (documents_in rs) in record {
      uris = uris_of ds;
      texts = texts_of ds;
      readings = map reading_of rs;
      units = units;
      program = program_in rs;
      links = links_of units (program_in rs);
    }
