-- What a fetch answers, and when it may say that it failed.
use Rattle.std.specs.Prelude.{◌≡◌, ℕ, ◌<◌, ◌≤◌, List, length, Some, None, vec_len}
use Rattle.std.specs.declared.option.Option.{Option}
use Rattle.ls_outside.specs.Calls.{AllTake, LastTakesNone}
use Rattle.ls_outside.specs.Counts.{Fails}
use Rattle.ls_outside.specs.declared.files.Fetch.{Fetch}
use Rattle.ls_outside.specs.declared.files.Fetch.TheVariants as fetch

-- a content that is given has at most `max` bytes
abbrev pub FetchWithin : Fetch → ℕ → Type 0
FetchWithin (fetch.Bytes content) max = vec_len content ≤ max
FetchWithin fetch.Long max = Unit {0}
FetchWithin fetch.Failed max = Unit {0}
FetchWithin fetch.Memory max = Unit {0}

-- by what the name holds: the content itself, or that it is longer than `max`; where the name holds none, neither
abbrev pub Gives : Option (List ℕ) → ℕ → Fetch → Type 0
Gives (Some held) max (fetch.Bytes content) = content.items ≡ held
Gives (Some held) max fetch.Long = max < length held
Gives None max (fetch.Bytes content) = ⊥
Gives None max fetch.Long = ⊥
Gives held max fetch.Failed = Unit {0}
Gives held max fetch.Memory = Unit {0}

-- the same of what a reader has left, where that is known
abbrev pub GivesRest : Option (List ℕ) → ℕ → Fetch → Type 0
GivesRest None max answer = Unit {0}
GivesRest (Some rest) max answer = Gives (Some rest) max answer

-- the same where it is told what names hold
abbrev pub FetchTells : Option (List ℕ → Option (List ℕ)) → List ℕ → ℕ → Fetch → Type 0
FetchTells None name max answer = Unit {0}
FetchTells (Some held) name max answer = Gives (held name) max answer

-- what is given is what the reads of this call took: all up to the end, or more than `max` bytes
abbrev pub GivesRead : List (List ℕ) → List (List ℕ) → ℕ → Fetch → Type 0
GivesRead old new max (fetch.Bytes content) = LastTakesNone old new content.items
GivesRead old new max fetch.Long = (bytes : List ℕ) × AllTake old new bytes × (max < length bytes)
GivesRead old new max fetch.Failed = (bytes : List ℕ) × LastTakesNone old new bytes
GivesRead old new max fetch.Memory = (bytes : List ℕ) × AllTake old new bytes

-- the count of faults rises with a fetch that fails, and with no other
abbrev pub FetchCounts : ℕ → ℕ → Fetch → Type 0
FetchCounts before now (fetch.Bytes content) = now ≡ before
FetchCounts before now fetch.Long = now ≡ before
FetchCounts before now fetch.Failed = Fails before now
FetchCounts before now fetch.Memory = now ≡ before
