-- What files show at a moment.
use Rattle.std.specs.Prelude.{◌≡◌, ℕ, List, ◌++◌}
use Rattle.std.specs.declared.option.Option.{Option}

-- what names hold, where the files tell it, the names asked so far, what each read of a file so far took, and how often a fetch has
-- failed
pub record FilesSeen : Type 0 where
  pub held : Option (List ℕ → Option (List ℕ))
  pub asked : List (List ℕ)
  pub reads : List (List ℕ)
  pub faults : ℕ

abbrev pub files_seen : Option (List ℕ → Option (List ℕ)) → (asked reads : List (List ℕ)) → ℕ → FilesSeen
files_seen held asked reads faults = record { held = held; asked = asked; reads = reads; faults = faults }

-- these names were asked in their order, and names hold what they held
pub record AsksFor (old new : FilesSeen) (names : List (List ℕ)) : Type 0 where
  pub asked : new.asked ≡ old.asked ++ names
  pub held : new.held ≡ old.held
