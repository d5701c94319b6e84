-- How much is given: what is left of a listing without its forms and strings.
use Rattle.std.specs.Prelude.{◌≡◌, ℕ, ◌+◌, nat_lt, List, [], ◌∷◌, ◌++◌, map, Bool, true, false, not, ◌&&◌, Option, if◌then◌else◌, take, slice_get, Some, length}
use Rattle.std.specs.List.{filter}
use Rattle.scheme_model.specs.Included as model
use Rattle.scheme_model.specs.Included.{Homed, Listing, Lists, BadAfter, TooLong, in_a_row, form_alone, given_at}
use Rattle.included_forms.specs.declared.steps.Source.{Source}
use Rattle.included_forms.specs.declared.steps.Way.{Way}
use Rattle.included_forms.specs.declared.steps.Way.TheVariants as way
use Rattle.included_forms.specs.declared.given.LostString.{LostString}
use Rattle.included_forms.specs.declared.given.Given.{Given}
use Rattle.included_forms.specs.declared.given.Given.TheVariants as given
use Rattle.included_forms.specs.declared.given.Count.{Count}
use Rattle.included_forms.specs.declared.given.Count.TheVariants as count
use Rattle.included_forms.specs.declared.given.Written.{Written}
use Rattle.included_forms.specs.declared.given.Part.{Part}
use Rattle.included_forms.specs.Steps.{homed_of, string_of}
use Rattle.included_forms.specs.Planned.{bad_one}

-- ---- what is given

abbrev pub lost_of : LostString → model.LostString
lost_of l = record { document = l.document; string = string_of l.string }

abbrev pub in_way : model.Given → Way → Listing
in_way g way.Forms = g.forms
in_way g way.Declarations = g.declarations

-- what a step gives, where the texts at the places of a table give these
abbrev pub listing_of : List model.Given → Given → Listing
listing_of gs (given.Form f) = form_alone f.declared (homed_of f.source)
listing_of gs (given.Text k w) = in_way (given_at gs k) w
listing_of gs (given.Lost l) = Lists 0 [] (lost_of l ∷ [])

-- what steps give, and a bad declaration behind them
abbrev pub all_given : (limit : ℕ) → List model.Given → List Given → Option Source → Listing
all_given limit gs steps bad = in_a_row limit (map (listing_of gs) steps ++ bad_one bad)

-- ---- counts

pub data Tally : Type 0 where
  Counted : (tokens : ℕ) → (is_empty : Bool) → Tally
  BadBehind : (tokens : ℕ) → Homed → Tally
  TooMany : Tally

abbrev pub is_none : {A : Type 0} → List A → Bool
is_none [] = true
is_none (x ∷ xs) = false

abbrev pub tally_of : Listing → Tally
tally_of (Lists n fs ls) = Counted n (is_none fs)
tally_of (BadAfter n h) = BadBehind n h
tally_of TooLong = TooMany

abbrev pub tally_as : Count → Tally
tally_as (count.Lists n e) = Counted n e
tally_as (count.BadAfter n s) = BadBehind n (homed_of s)
tally_as count.TooLong = TooMany

-- more tokens than the limit are too many
abbrev pub tally_capped : (limit : ℕ) → Tally → Tally
tally_capped limit TooMany = TooMany
tally_capped limit (BadBehind n h) = if nat_lt limit n then TooMany else BadBehind n h
tally_capped limit (Counted n e) = if nat_lt limit n then TooMany else Counted n e

-- one behind the other: the first end counts
abbrev pub tally_joined : Tally → Tally → Tally
tally_joined TooMany b = TooMany
tally_joined (BadBehind n h) b = BadBehind n h
tally_joined (Counted n e) TooMany = TooMany
tally_joined (Counted n e) (BadBehind m h) = BadBehind (n + m) h
tally_joined (Counted n e) (Counted m f) = Counted (n + m) (e && f)

abbrev pub tally_followed : (limit : ℕ) → Tally → Tally → Tally
tally_followed limit a b = tally_capped limit (tally_joined a b)

abbrev pub counts_none : Tally → Bool
counts_none (Counted n e) = e
counts_none (BadBehind n h) = false
counts_none TooMany = false

-- a step gives forms, where the texts at the places of a table give these
abbrev pub gives : List model.Given → Given → Bool
gives gs s = not (counts_none (tally_of (listing_of gs s)))

-- ---- tables of texts

-- steps give this, where the texts before theirs give those, and it is counted
pub record IsWritten (limit : ℕ) (before : List model.Given) (w : Written) (l : Listing) : Type 0 where
  pub listing : all_given limit before w.steps.items w.bad ≡ l
  pub giving : w.giving.items ≡ filter (gives before) w.steps.items
  pub count : tally_as w.count ≡ tally_of l

pub record IsPart (limit : ℕ) (before : List model.Given) (p : Part) (g : model.Given) : Type 0 where
  pub forms : IsWritten limit before p.forms g.forms
  pub declarations : IsWritten limit before p.declarations g.declarations

-- the texts of a table give these, each by those before it
pub record Stand (limit : ℕ) (gs : List model.Given) (parts : List Part) : Type 0 where
  pub as_many : length gs ≡ length parts
  pub each : (k : ℕ) (p : Part) → slice_get parts k ≡ Some p → IsPart limit (take k gs) p (given_at gs k)

abbrev pub written_in : Part → Way → Written
written_in p way.Forms = p.forms
written_in p way.Declarations = p.declarations
