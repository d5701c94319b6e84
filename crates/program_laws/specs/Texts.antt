-- Documents that were read from texts.
use Rattle.std.specs.Prelude.{ℕ, ◌^◌, ◌<◌, List, length, Option, Some, None}
use Rattle.std.specs.Str.{chars}
use Rattle.scheme_model.specs.Data.{Datum}
use Rattle.scheme_model.specs.Includes.{Document}
use Rattle.datum_reader.specs.Texts.{IsReading}

-- data of a text of fewer than 2 ^ 59 bytes (R7RS 7.1.2), or none where it doesn't read
abbrev pub AreOfText : Option (List Datum) → Type 0
AreOfText None = Unit {0}
AreOfText (Some ds) = (text : List ℕ) × (length text < 2 ^ 59) × IsReading (chars text) ds

abbrev pub IsOfText : Document → Type 0
IsOfText d = AreOfText d.read
