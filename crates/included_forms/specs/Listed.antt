-- What units give, as it is written out.
use Rattle.std.specs.Prelude.{◌≡◌, ℕ, List, map}
use Rattle.scheme_model.specs.Included as model
use Rattle.scheme_model.specs.Included.{Listing, Lists, BadAfter, TooLong}
use Rattle.included_forms.specs.declared.units.Listed.{Listed}
use Rattle.included_forms.specs.declared.units.Listed.TheVariants as listed
use Rattle.included_forms.specs.Steps.{homed_of, form_of}
use Rattle.included_forms.specs.Counted.{lost_of}

-- there are forms
abbrev pub IsLists : Listing → Type 0
IsLists l = (n : ℕ) × (fs : List model.FlatForm) × (ls : List model.LostString) × (l ≡ Lists n fs ls)

-- a listing is written out: its forms and its strings, or its end
abbrev pub IsListed : Listed → Listing → Type 0
IsListed (listed.Lists forms strings) l = (n : ℕ) × (l ≡ Lists n (map form_of forms.items) (map lost_of strings.items))
IsListed (listed.Bad s) l = (n : ℕ) × (l ≡ BadAfter n (homed_of s))
IsListed listed.TooLong l = l ≡ TooLong
