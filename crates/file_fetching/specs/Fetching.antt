-- How fetching files ends, and what was asked for.
use Rattle.std.specs.Prelude.{◌≡◌, ◌<◌, ◌≤◌, ℕ, List, [], ◌∷◌, ◌++◌, length, map, Ok, Err, Some, None}
use Rattle.std.specs.List.{AllByRecursion}
use Rattle.std.specs.declared.option.Option.{Option}
use Rattle.std.specs.declared.result.Result.{Result}
use Rattle.std.specs.declared.vec.Vec.{Vec}
use Rattle.std.specs.declared.alloc.Global.{Global}
use Rattle.ls_outside.specs.Calls.{AllTake, LastTakesNone}
use Rattle.ls_outside.specs.Counts.{Fails}
use Rattle.file_fetching.specs.FilesSeen.{AsksFor, FilesSeen}
use Rattle.file_fetching.specs.declared.fetching.FetchStop.{FetchStop}
use Rattle.file_fetching.specs.declared.fetching.FetchStop.TheVariants.{Failed, Long, Memory}

-- how many bytes a recorded session has, at most
abbrev pub max_recording : ℕ
max_recording = 67108864

-- ---- one file

-- the content is what the name holds, where that is told
abbrev pub IsHeld : Option (List ℕ → Option (List ℕ)) → (name content : List ℕ) → Type 0
IsHeld None name content = Unit {0}
IsHeld (Some held) name content = held name ≡ Some content

-- the name holds more than `max` bytes, where that is told
abbrev pub IsOver : Option (List ℕ → Option (List ℕ)) → (name : List ℕ) → (max : ℕ) → Type 0
IsOver None name max = Unit {0}
IsOver (Some held) name max = (content : List ℕ) × (held name ≡ Some content) × (max < length content)

-- the content was fetched: the name was asked, the reads took this, up to the end, and no fetch failed
pub record Fetches (old new : FilesSeen) (name : List ℕ) (max : ℕ) (content : List ℕ) : Type 0 where
  pub asks : AsksFor old new (name ∷ [])
  pub no_fault : new.faults ≡ old.faults
  pub reads : LastTakesNone old.reads new.reads content
  pub within_limit : length content ≤ max
  pub is : IsHeld old.held name content

-- the name was asked, and no fetch failed: its content is too long, and so much of it was read
pub record PassesLimit (old new : FilesSeen) (name : List ℕ) (max : ℕ) : Type 0 where
  pub asks : AsksFor old new (name ∷ [])
  pub no_fault : new.faults ≡ old.faults
  pub bytes : List ℕ
  pub reads : AllTake old.reads new.reads bytes
  pub longer : max < length bytes
  pub over : IsOver old.held name max

-- the name was asked, and the fetch failed, perhaps after some reads
pub record FailsToFetch (old new : FilesSeen) (name : List ℕ) : Type 0 where
  pub asks : AsksFor old new (name ∷ [])
  pub bytes : List ℕ
  pub reads : LastTakesNone old.reads new.reads bytes
  pub failed : Fails old.faults new.faults

-- these names were asked, and no fetch failed
pub record AsksCalmly (old new : FilesSeen) (names : List (List ℕ)) : Type 0 where
  pub asks : AsksFor old new names
  pub no_fault : new.faults ≡ old.faults

-- how fetching a file ends that doesn't give its content
abbrev pub FetchStopsAs : FilesSeen → FilesSeen → (name : List ℕ) → (max : ℕ) → FetchStop → Type 0
FetchStopsAs old new name max Long = PassesLimit old new name max
FetchStopsAs old new name max Failed = FailsToFetch old new name
FetchStopsAs old new name max Memory = AsksCalmly old new (name ∷ [])

-- how fetching a file ends
abbrev pub FetchEndsAs : FilesSeen → FilesSeen → (name : List ℕ) → (max : ℕ) → Result (Vec ℕ Global) FetchStop → Type 0
FetchEndsAs old new name max (Ok content) = Fetches old new name max content.items
FetchEndsAs old new name max (Err stop) = FetchStopsAs old new name max stop

-- ---- several files

-- each content is what its name holds, where that is told; there is one for each name
abbrev pub AreHeld : Option (List ℕ → Option (List ℕ)) → (names contents : List (List ℕ)) → Type 0
AreHeld None names contents = length contents ≡ length names
AreHeld (Some held) names contents = map held names ≡ map Some contents

-- the reads took these contents, one after another, each up to its end
abbrev pub ReadEach : (old new contents : List (List ℕ)) → Type 0
ReadEach old new [] = new ≡ old
ReadEach old new (content ∷ contents) = (mid : List (List ℕ)) × LastTakesNone old mid content × ReadEach mid new contents

-- all contents were fetched: the names were asked, each once and in their order, the reads took these, and no fetch failed
pub record FetchesAll (old new : FilesSeen) (names : List (List ℕ)) (max : ℕ) (contents : List (List ℕ)) : Type 0 where
  pub asks : AsksFor old new names
  pub no_fault : new.faults ≡ old.faults
  pub reads : ReadEach old.reads new.reads contents
  pub within_limit : AllByRecursion (λ content. length content ≤ max) contents
  pub are : AreHeld old.held names contents

-- all contents before a name were fetched, and its fetch ended so
pub record StopsAt (old new : FilesSeen) (names : List (List ℕ)) (max : ℕ) (stop : FetchStop) : Type 0 where
  pub front : List (List ℕ)
  pub name : List ℕ
  pub later : List (List ℕ)
  pub split : names ≡ front ++ name ∷ later
  pub contents : List (List ℕ)
  pub mid : FilesSeen
  pub fetched : FetchesAll old mid front max contents
  pub stops : FetchStopsAs mid new name max stop

-- some first names were asked, and no fetch failed
pub record AsksFirst (old new : FilesSeen) (names : List (List ℕ)) : Type 0 where
  pub front : List (List ℕ)
  pub later : List (List ℕ)
  pub split : names ≡ front ++ later
  pub asks : AsksCalmly old new front

-- the bytes of contents
abbrev pub bytes_in : List (Vec ℕ Global) → List (List ℕ)
bytes_in contents = map (λ (content : Vec ℕ Global). content.items) contents

-- how fetching files ends
abbrev pub FetchingEndsAs : FilesSeen → FilesSeen → (names : List (List ℕ)) → (max : ℕ) → Result (List (Vec ℕ Global)) FetchStop → Type 0
FetchingEndsAs old new names max (Ok contents) = FetchesAll old new names max (bytes_in contents)
FetchingEndsAs old new names max (Err Long) = StopsAt old new names max Long
FetchingEndsAs old new names max (Err Failed) = StopsAt old new names max Failed
FetchingEndsAs old new names max (Err Memory) = AsksFirst old new names
