-- What files in memory hold, and what a copy of one gives.
use Rattle.std.specs.Prelude.{◌≡◌, ℕ, ◌<◌, ◌≤◌, List, [], length, Some, None}
use Rattle.std.specs.declared.option.Option.{Option}
use Rattle.std.specs.declared.vec.Vec.{Vec}
use Rattle.std.specs.declared.alloc.Global.{Global}
use Rattle.std.specs.declared.string.String.{String}
use Rattle.std.specs.Option.{option_map, unwrap_or}
use Rattle.std.specs.BTreeMap.{BTreeMap, get_by_text}
use Rattle.ls_outside.specs.Places.{bytes_in}
use Rattle.ls_outside.specs.declared.files.Fetch.{Fetch}
use Rattle.ls_outside.specs.declared.files.Fetch.TheVariants as fetch

-- the content of a name, where there is a file of this name
abbrev pub content_of : BTreeMap (String Global) (Vec ℕ Global) → List ℕ → Option (List ℕ)
content_of contents name = option_map bytes_in (get_by_text contents name)

-- the same, where a name without a file has an empty content
abbrev pub content_or_empty : BTreeMap (String Global) (Vec ℕ Global) → List ℕ → Option (List ℕ)
content_or_empty contents name = Some (unwrap_or (content_of contents name) [])

-- a copy of a content of at most `max` bytes, exactly where there is a content
abbrev pub IsCopy : Option (List ℕ) → ℕ → Option Fetch → Type 0
IsCopy None max None = Unit {0}
IsCopy None max (Some copy) = ⊥
IsCopy (Some content) max None = ⊥
IsCopy (Some content) max (Some (fetch.Bytes copy)) = (copy.items ≡ content) × (length content ≤ max)
IsCopy (Some content) max (Some fetch.Long) = max < length content
IsCopy (Some content) max (Some fetch.Failed) = ⊥
IsCopy (Some content) max (Some fetch.Memory) = Unit {0}
