-- What is found of strings that mean no text (R7RS 4.1.7).
use Rattle.std.specs.Prelude.{Some}
use Rattle.scheme_model.specs.DiagnosticTexts.{worded}
use Rattle.scheme_model.specs.Included.{LostString}
use Rattle.datum_reader.specs.FirstTokens.{span_of}
use Rattle.read_documents.specs.declared.findings.Finding.{Finding}

-- the finding of a string, where it is written
abbrev pub lost_found : LostString → Finding
lost_found l = record { at = Some (record { document = l.document; span = span_of l.string.place }); form = 0; code = 105; message = worded 105 l.string.characters }
