-- The strings that are lost where texts give steps: those that mean no text that can be included.
use Rattle.std.specs.Prelude.{◌≡◌, ◌==◌, ℕ, List, [], ◌∷◌, map, reverse, length, Bool, true, false, ◌&&◌, slice_get, Some}
use Rattle.std.specs.List.{list_any}
use Rattle.std.specs.BTreeSet.{BTreeSet, contains}
use Rattle.std.specs.Ordering.{nat_cmp, ordering_then}
use Rattle.std.specs.declared.cmp.Ordering.{Ordering}
use Rattle.scheme_model.specs.Included as model
use Rattle.scheme_model.specs.Included.{Listing, Lists, is_same_string, with_lost, given_at}
use Rattle.included_forms.specs.declared.steps.Way.{Way}
use Rattle.included_forms.specs.declared.steps.Way.TheVariants as way
use Rattle.included_forms.specs.declared.given.LostString.{LostString}
use Rattle.included_forms.specs.declared.given.Part.{Part}
use Rattle.included_forms.specs.declared.losing.Visit.{Visit}
use Rattle.included_forms.specs.declared.once.Spot.{Spot}
use Rattle.included_forms.specs.Counted.{lost_of, in_way}

-- ---- strings that were found

-- strings that were found from the last to the first, in their order, each once
abbrev pub lost_in : List LostString → List model.LostString
lost_in found = with_lost (reverse (map lost_of found)) []

-- each of these strings is among those
abbrev pub AreAmong : List model.LostString → List model.LostString → Type 0
AreAmong [] ks = Unit {0}
AreAmong (l ∷ ls) ks = (list_any (is_same_string l) ks ≡ true) × AreAmong ls ks

-- where a string stands
abbrev pub spot_of : model.LostString → Spot
spot_of l = record { document = l.document; start = l.string.place.start }

abbrev pub spot_cmp : Spot → Spot → Ordering
spot_cmp a b = ordering_then (nat_cmp a.document b.document) (nat_cmp a.start b.start)

abbrev pub stands_at : Spot → model.LostString → Bool
stands_at s l = (s.document == l.document) && (s.start == l.string.place.start)

-- the set has the places of these strings, and no others
abbrev pub AreSpots : BTreeSet Spot → List model.LostString → Type 0
AreSpots set ls = (s : Spot) → contains spot_cmp set s ≡ list_any (stands_at s) ls

-- ---- texts that were gone through

abbrev pub visited_in : Visit → Way → Bool
visited_in v way.Forms = v.forms
visited_in v way.Declarations = v.declarations

abbrev pub same_way : Way → Way → Bool
same_way way.Forms way.Forms = true
same_way way.Forms way.Declarations = false
same_way way.Declarations way.Forms = false
same_way way.Declarations way.Declarations = true

-- none of the texts was
pub record AreFresh (visits : List Visit) (parts : List Part) : Type 0 where
  pub as_many : length visits ≡ length parts
  pub none : (k : ℕ) (v : Visit) (w : Way) → slice_get visits k ≡ Some v → visited_in v w ≡ false

-- the strings of the texts that were are found
abbrev pub AreSeen : List model.Given → List Visit → List LostString → Type 0
AreSeen gs visits found = (k : ℕ) (v : Visit) (w : Way) → slice_get visits k ≡ Some v → visited_in v w ≡ true → (n : ℕ) (fs : List model.FlatForm) (ls : List model.LostString) → in_way (given_at gs k) w ≡ Lists n fs ls → AreAmong ls (lost_in found)

-- these strings were found, which stand before the others
pub record Loses (gs : List model.Given) (old : List LostString) (visits : List Visit) (new : List LostString) (ls : List model.LostString) : Type 0 where
  pub seen : AreSeen gs visits new
  pub found : lost_in new ≡ with_lost ls (lost_in old)
