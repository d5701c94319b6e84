-- Tables of the texts that documents include.
use Rattle.std.specs.Prelude.{◌≡◌, ℕ, List, Bool, true, false, Option, Some, None, slice_get}
use Rattle.scheme_model.specs.Includes.{document_at, is_among, has_program, program_number, data_of as data_in}
use Rattle.scheme_model.specs.Included.{Sources, Texts}
use Rattle.datum_reader.specs.Views.{data_of}
use Rattle.known_libraries.specs.PartsRead.{Knows}
use Rattle.included_forms.specs.declared.resolving.Standing.{Standing}
use Rattle.included_forms.specs.declared.resolving.Standing.TheVariants as standing
use Rattle.included_forms.specs.declared.tables.Text.{Text}
use Rattle.included_forms.specs.declared.tables.Documents.{Documents}
use Rattle.included_forms.specs.declared.tables.Table.{Table}
use Rattle.included_forms.specs.Counted.{Stand}
use Rattle.included_forms.specs.Tables.{Serve, Mean, Placed, givens}

-- the text of a document, and the number of its program, where it has one
pub record IsText (o : Sources) (n : ℕ) (x : Text) : Type 0 where
  pub «data» : data_of x.«data».now ≡ data_in (document_at o.documents n)
  pub unit : has_program (data_in (document_at o.documents n)) ≡ true → x.unit ≡ program_number o.documents n

pub record AreDocuments (o : Sources) (d : Documents) : Type 0 where
  pub limit : d.limit ≡ o.limit
  pub known : Knows d.known.now.names o.known
  pub meant : Mean o d.uris.now
  pub texts : (n : ℕ) (x : Text) → slice_get d.texts.now n ≡ Some x → is_among o.usable n ≡ true → IsText o n x

-- which documents can be included, by their places
abbrev pub IsUsable : List ℕ → ℕ → Option Bool → Type 0
IsUsable us m None = is_among us m ≡ false
IsUsable us m (Some b) = is_among us m ≡ b

abbrev pub AreUsable : List ℕ → List Bool → Type 0
AreUsable us bs = (m : ℕ) → IsUsable us m (slice_get bs m)

-- these documents stand in a table, by what each gives
pub record StandAt (o : Sources) (t : Texts) (ms : List ℕ) (table : Table) : Type 0 where
  pub placed : Placed o.usable ms table.places.items
  pub parts : Stand o.limit (givens o t ms) table.parts.items

pub record IsTable (o : Sources) (table : Table) : Type 0 where
  pub members : List ℕ
  pub stand : (t : Texts) → Serve o t → StandAt o t members table

-- where a document stands before any is added
abbrev pub standing_for : Bool → Standing
standing_for true = standing.Later
standing_for false = standing.Unusable
