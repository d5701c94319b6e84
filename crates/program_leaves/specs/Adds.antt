-- What stands for one thing each was added at the end of a list.
use Rattle.std.specs.Prelude.{◌≡◌, List, ◌++◌}
use Rattle.core_tree.specs.Names.{AllMatch}

pub record Adds {X Y : Type 0} (P : X → Y → Type 0) (old new : List X) (ys : List Y) : Type 0 where
  pub more : List X
  pub added : new ≡ old ++ more
  pub match : AllMatch P more ys
