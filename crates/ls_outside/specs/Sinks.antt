-- What a write takes and answers, and when it may say that it failed.
use Rattle.std.specs.Prelude.{◌≡◌, ℕ, ◌≤◌, List, [], ◌∷◌, ◌++◌, length, take}
use Rattle.std.specs.declared.option.Option.{Option}
use Rattle.std.specs.Io.KnownBytes.{Appends, Keeps}
use Rattle.ls_outside.specs.Counts.{Fails}
use Rattle.ls_outside.specs.declared.sink.Put.{Put}
use Rattle.ls_outside.specs.declared.sink.Put.TheVariants as put

-- a write that takes takes one byte at least, and no more than there are
abbrev pub PutWithin : Put → List ℕ → Type 0
PutWithin (put.Some n) bytes = (1 ≤ n) × (n ≤ length bytes)
PutWithin put.Failed bytes = Unit {0}

-- what was taken, where it is told, grows by the front of the bytes, and stays where the write fails
abbrev pub PutTakes : Option (List ℕ) → Option (List ℕ) → Put → List ℕ → Type 0
PutTakes old new (put.Some n) bytes = Appends old new (take n bytes)
PutTakes old new put.Failed bytes = Keeps old new

-- the count of faults rises with a write that fails, and with no other
abbrev pub PutCounts : ℕ → ℕ → Put → Type 0
PutCounts before now (put.Some n) = now ≡ before
PutCounts before now put.Failed = Fails before now

-- what a write took is noted behind what earlier writes took
abbrev pub PutNotes : List (List ℕ) → List (List ℕ) → Put → List ℕ → Type 0
PutNotes old new (put.Some n) bytes = new ≡ old ++ take n bytes ∷ []
PutNotes old new put.Failed bytes = new ≡ old ++ [] ∷ []
