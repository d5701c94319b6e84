-- Members of lists, and lists that stand for the members of others.
use Rattle.std.specs.Prelude.{◌≡◌, ◌⊎◌, List, [], ◌∷◌}
use Rattle.core_tree.specs.Names.{AllMatch}

abbrev pub IsIn : {X : Type 0} → X → List X → Type 0
IsIn x [] = ⊥
IsIn x (y ∷ ys) = (y ≡ x) ⊎ IsIn x ys

-- the one list stands for the members of the other, in some order
pub record Tells {X Y : Type 0} (P : X → Y → Type 0) (xs : List X) (ys : List Y) : Type 0 where
  pub told : List Y
  pub match : AllMatch P xs told
  pub there : (y : Y) → IsIn y told → IsIn y ys
  pub back : (y : Y) → IsIn y ys → IsIn y told
