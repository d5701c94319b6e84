-- Forms of units that were read from texts.
use Rattle.std.specs.Prelude.{◌≡◌, ◌≤◌, List, [], ◌∷◌, false, Option, Some, None}
use Rattle.scheme_model.specs.declared.Home.{Home}
use Rattle.scheme_model.specs.Data.{Datum, place_of}
use Rattle.scheme_model.specs.Declarations.{UnitForm}
use Rattle.datum_reader.specs.WellFormed.{WasRead}
use Rattle.unit_sources.specs.UnitsRead.{forms_of}
use Rattle.unit_sources.specs.declared.units.UnitSource.{UnitSource}

-- the forms that are expanded were read
abbrev pub WereRead : List UnitForm → Type 0
WereRead [] = Unit {0}
WereRead (f ∷ fs) = (f.declared ≡ false → WasRead f.datum) × WereRead fs

-- what is included stands behind the first token of its home
abbrev pub IsInHome : Option Home → Datum → Type 0
IsInHome None d = Unit {0}
IsInHome (Some h) d = h.first ≤ (place_of d).first

-- all forms were read, also those that are declarations
abbrev pub FormsRead : List UnitForm → Type 0
FormsRead [] = Unit {0}
FormsRead (f ∷ fs) = (WasRead f.datum × IsInHome f.home f.datum) × FormsRead fs

-- the forms that are expanded were read, of each unit
abbrev pub AreSourcesRead : List UnitSource → Type 0
AreSourcesRead [] = Unit {0}
AreSourcesRead (s ∷ ss) = WereRead (forms_of s.forms) × AreSourcesRead ss
