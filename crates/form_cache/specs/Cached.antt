-- What is kept, by unit and form.
use Rattle.std.specs.Prelude.{ℕ, ◌<◌, List, [], length, slice_get, Vec, Option, Some, None}
use Rattle.std.specs.declared.alloc.Global.{Global}
use Rattle.form_cache.specs.declared.cache.FormCache.{FormCache}
use Rattle.form_cache.specs.declared.entries.Entry.{Entry}

abbrev pub items_if : Option (Vec (Option Entry) Global) → List (Option Entry)
items_if None = []
items_if (Some forms) = forms.items

abbrev pub entries_at : List (Vec (Option Entry) Global) → ℕ → List (Option Entry)
entries_at units unit = items_if (slice_get units unit)

abbrev pub entry_if : Option (Option Entry) → Option Entry
entry_if None = None
entry_if (Some o) = o

-- the entries of a unit, by the places of its forms
abbrev pub entries_of : FormCache → (unit : ℕ) → List (Option Entry)
entries_of c unit = entries_at c.units.items unit

abbrev pub entry_in : FormCache → (unit form : ℕ) → Option Entry
entry_in c unit form = entry_if (slice_get (entries_of c unit) form)

-- there is a place for the entry of a form
abbrev pub HasPlace : FormCache → (unit form : ℕ) → Type 0
HasPlace c unit form = form < length (entries_of c unit)
