-- What was read of a source.
use Rattle.std.specs.Prelude.{◌≡◌, ℕ, ◌+◌, List, [], ◌++◌, Some, None}
use Rattle.std.specs.declared.option.Option.{Option}
use Rattle.ls_outside.specs.Calls.{AllTake, LastTakesNone}
use Rattle.ls_outside.specs.Counts.{Fails}
use Rattle.ls_outside.specs.Sources.{bytes_of}

-- what a source shows at a moment: the pieces that are left, where it tells them, how often a read has failed, and what
-- each read so far took
pub record SourceSeen : Type 0 where
  pub left : Option (List (List ℕ))
  pub faults : ℕ
  pub reads : List (List ℕ)

abbrev pub source_seen : Option (List (List ℕ)) → ℕ → List (List ℕ) → SourceSeen
source_seen left faults reads = record { left = left; faults = faults; reads = reads }

-- these bytes are a front of what was left, and the rest is left
abbrev pub TakesBytes : Option (List (List ℕ)) → Option (List (List ℕ)) → List ℕ → Type 0
TakesBytes None new bytes = Unit {0}
TakesBytes (Some old) None bytes = ⊥
TakesBytes (Some old) (Some new) bytes = bytes_of old ≡ bytes ++ bytes_of new

-- these bytes are all that was left, and nothing is left
abbrev pub TakesAll : Option (List (List ℕ)) → Option (List (List ℕ)) → List ℕ → Type 0
TakesAll None new bytes = Unit {0}
TakesAll (Some old) None bytes = ⊥
TakesAll (Some old) (Some new) bytes = (bytes ≡ bytes_of old) × (new ≡ [])

-- these bytes are what the reads took, each of them some, and none failed
pub record ReadsOn (old new : SourceSeen) (bytes : List ℕ) : Type 0 where
  pub no_fault : new.faults ≡ old.faults
  pub calls : AllTake old.reads new.reads bytes

-- these bytes were read, and then a read found the end; none failed
pub record ReadsToEnd (old new : SourceSeen) (bytes : List ℕ) : Type 0 where
  pub all : TakesAll old.left new.left bytes
  pub no_fault : new.faults ≡ old.faults
  pub calls : LastTakesNone old.reads new.reads bytes

-- these bytes were read, and then a read failed; none followed it
pub record FailsToRead (old new : SourceSeen) (bytes : List ℕ) : Type 0 where
  pub failed : Fails old.faults new.faults
  pub calls : LastTakesNone old.reads new.reads bytes
