-- What becomes of the leaves of cores, of the uses of names in imports and exports, and of arrows; and programs whose units come to the same.
use Rattle.std.specs.Prelude.{◌≡◌, ◌⊎◌, ◌↔◌, List, [], ◌∷◌, map, Bool, true, false}
use Rattle.scheme_model.specs.Identifiers.{Number, same_number}
use Rattle.scheme_model.specs.Cores.{Bound, LocalNumber, Definition}
use Rattle.scheme_model.specs.Live.{CoreLeaf, Binds, Uses, Assigns, Quotes, Defines, unit_leaves, NameUse}
use Rattle.scheme_model.specs.Program.{UnitResult}
use Rattle.scheme_model.specs.ProgramArrows.{Arrow, local_at, any}
use Rattle.renumbering_laws.specs.Renumbering.{Renumbering, occ_at, place, meaning, target, binder, macro_of, formed_as}
use Rattle.renumbering_laws.specs.Exports.{origin_as}

abbrev pub leaf_as : Renumbering → CoreLeaf → CoreLeaf
leaf_as r (Binds b) = Binds (binder r b)
leaf_as r (Uses t) = Uses (target r t)
leaf_as r (Assigns t) = Assigns (target r t)
leaf_as r (Quotes o) = Quotes (place r o)
leaf_as r (Defines m) = Defines (macro_of r m)

abbrev pub name_use_as : Renumbering → NameUse → NameUse
name_use_as r n = record { meaning = meaning r n.meaning; symbol = n.symbol; occ = place r n.occ; origins = map (origin_as r) n.origins }

abbrev pub arrow_as : Renumbering → Arrow → Arrow
arrow_as r a = record { binder = occ_at r a.binder; target = occ_at r a.target }

-- ---- units

-- the forms of a unit come to what those of another come to, renumbered
abbrev pub ComesTo : Renumbering → UnitResult → UnitResult → Type 0
ComesTo r u v = v.forms ≡ map (formed_as r u.unit.number) u.forms

-- and it has its new number
abbrev pub ComesToNumbered : Renumbering → UnitResult → UnitResult → Type 0
ComesToNumbered r u v = ComesTo r u v × (v.unit.number ≡ r.unit u.unit.number)

-- those of each unit, in order
abbrev pub UnitsMove : Renumbering → List UnitResult → List UnitResult → Type 0
UnitsMove r [] [] = Unit {0}
UnitsMove r [] (v ∷ vs) = ⊥
UnitsMove r (u ∷ us) [] = ⊥
UnitsMove r (u ∷ us) (v ∷ vs) = ComesTo r u v × UnitsMove r us vs

-- ---- in any order

-- it stands in a list
abbrev pub IsIn : {X : Type 0} → X → List X → Type 0
IsIn x [] = ⊥
IsIn x (y ∷ ys) = (y ≡ x) ⊎ IsIn x ys

-- the same stands in both
abbrev pub SameMembers : {X : Type 0} → List X → List X → Type 0
SameMembers {X} xs ys = (x : X) → IsIn x xs ↔ IsIn x ys

-- for each unit of one list there is one in the other that comes to the same
pub record UnitsMoveAround (r : Renumbering) (us vs : List UnitResult) : Type 0 where
  pub there : (u : UnitResult) → IsIn u us → (v : UnitResult) × IsIn v vs × ComesToNumbered r u v
  pub back : (v : UnitResult) → IsIn v vs → (u : UnitResult) × IsIn u us × ComesToNumbered r u v

-- each local is bound at one place in both
abbrev pub BoundAlike : List CoreLeaf → List CoreLeaf → Type 0
BoundAlike ls ks = (v : Number) → local_at ks v ≡ local_at ls v

abbrev pub is_local : Number → Bound → Bool
is_local v (LocalNumber w) = same_number w v
is_local v (Definition u n) = false

-- what binds this local
abbrev pub binds_it : Number → CoreLeaf → Bool
binds_it v (Binds b) = is_local v b.bound
binds_it v (Uses t) = false
binds_it v (Assigns t) = false
binds_it v (Quotes o) = false
binds_it v (Defines m) = false

-- each unit binds locals of its own number, and no two units have one
pub record AreApart (us : List UnitResult) : Type 0 where
  pub own : (u : UnitResult) → IsIn u us → (v : Number) → any (binds_it v) (unit_leaves u.forms) ≡ true → v.unit ≡ u.unit.number
  pub numbers : (u w : UnitResult) → IsIn u us → IsIn w us → u.unit.number ≡ w.unit.number → u ≡ w
