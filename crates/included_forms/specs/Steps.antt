-- What steps of a text give, one after another.
use Rattle.std.specs.Prelude.{◌≡◌, ℕ, List, [], ◌∷◌, ◌++◌, map, Result, Ok, Err}
use Rattle.scheme_model.specs.Data.{Datum, place_of}
use Rattle.scheme_model.specs.Includes.{StringAt}
use Rattle.scheme_model.specs.Included.{Homed, FlatForm, Listing, in_a_row, Texts, form_alone, bad}
use Rattle.datum_reader.specs.Views.{datum_of}
use Rattle.included_forms.specs.declared.steps.Origin.{Origin}
use Rattle.included_forms.specs.declared.steps.Source.{Source}
use Rattle.included_forms.specs.declared.steps.FlatForm as code_form
use Rattle.included_forms.specs.declared.steps.TextString.{TextString}
use Rattle.included_forms.specs.declared.steps.Way.{Way}
use Rattle.included_forms.specs.declared.steps.Way.TheVariants as way
use Rattle.included_forms.specs.declared.steps.Step.{Step}
use Rattle.included_forms.specs.declared.steps.Step.TheVariants as step
use Rattle.included_forms.specs.declared.steps.Stop.{Stop}
use Rattle.included_forms.specs.declared.steps.Stop.TheVariants as stop

-- ---- forms and strings

abbrev pub from : Origin → Datum → Homed
from o d = record { document = o.document; home = o.home; datum = d }

abbrev pub homed_of : Source → Homed
homed_of s = from s.origin (datum_of s.datum.now)

abbrev pub form_of : code_form.FlatForm → FlatForm
form_of f = record { source = homed_of f.source; declared = f.declared }

abbrev pub string_of : TextString → StringAt
string_of s = record { place = place_of (datum_of s.datum.now); characters = s.characters.now }

-- ---- what steps give

-- what the text gives that a string means
abbrev pub text_by : Texts → Way → (document : ℕ) → StringAt → Listing
text_by t way.Forms n s = t.as_forms n s
text_by t way.Declarations n s = t.as_declarations n s

abbrev pub given_by : Texts → (document : ℕ) → Step → Listing
given_by t n (step.Form f) = form_alone f.declared (homed_of f.source)
given_by t n (step.Text s w) = text_by t w n (string_of s)

-- what steps of a document give, and others behind them
abbrev pub steps_then : Texts → (document : ℕ) → List Step → List Listing → Listing
steps_then t n steps ls = in_a_row t.limit (map (given_by t n) steps ++ ls)

-- steps were added that give what these give, whatever stands behind; or those up to the first bad declaration
abbrev pub Plans : Texts → (document : ℕ) → (old new : List Step) → Result Unit Stop → List Listing → Type 0
Plans t n old new (Ok u) ls = (behind : List Listing) → steps_then t n old (ls ++ behind) ≡ steps_then t n new behind
Plans t n old new (Err (stop.Bad h)) ls = (behind : List Listing) → steps_then t n old (ls ++ behind) ≡ steps_then t n new (bad (homed_of h) ∷ [])
Plans t n old new (Err stop.Memory) ls = Unit {0}
