-- What variables stand for at one place of the ellipses around a part of a template.
use Rattle.std.specs.Prelude.{◌≡◌, ℕ, zero, suc, Bool, false, List, [], ◌∷◌, Option, Some, None, nat_eq, if◌then◌else◌, Result, Ok, Err, Vec}
use Rattle.std.specs.List.{list_any, slice_get}
use Rattle.std.specs.BTreeMap.{BTreeMap, get}
use Rattle.std.specs.Ordering.{nat_cmp}
use Rattle.std.specs.declared.alloc.Global.{Global}
use Rattle.scheme_model.specs.Matching.{Value, One, Many, Values, Binding}
use Rattle.scheme_model.specs.Building.{or_zero}
use Rattle.scheme_model.specs.Ident.{Ident as Identifier}
use Rattle.syntax_tree.specs.Works.{StandsFor, CanName}
use Rattle.syntax_tree.specs.Bound.{MayNameValue, MayNameValues}
use Rattle.syntax_tree.specs.Macros.{IsIdent, IsValue, AreValues, IsRest}
use Rattle.syntax_tree.specs.declared.trees.Work.{Work}
use Rattle.syntax_tree.specs.declared.trees.table.Region.{Region}
use Rattle.syntax_tree.specs.declared.rules.Binding as code_binding
use Rattle.rules_build.specs.declared.values.Bound as code
use Rattle.rules_build.specs.declared.index.Maps as code_maps
use Rattle.rules_build.specs.declared.index.Index as code_index
use Rattle.rules_build.specs.declared.index.Index.TheVariants as shape
use Rattle.rules_build.specs.declared.values.Value as code_value
use Rattle.rules_build.specs.declared.values.Value.TheVariants as worth
use Rattle.rules_build.specs.declared.fault.BuildFault.{BuildFault}
use Rattle.rules_build.specs.declared.fault.BuildFault.TheVariants as fault

-- two lists are as long, and what stands at the same place of them is related
abbrev pub Paired : {A B : Type 0} → (A → B → Type 0) → List A → List B → Type 0
Paired R [] [] = Unit {0}
Paired R [] (y ∷ ys) = ⊥
Paired R (x ∷ xs) [] = ⊥
Paired R (x ∷ xs) (y ∷ ys) = R x y × Paired R xs ys

-- a variable's number stands beside this value, whose nodes may be named
abbrev pub IsBoundTo : Work → Region → code_binding.Binding → ℕ → Value Identifier → Type 0
IsBoundTo work region b v x = IsValue work b v x × MayNameValue work region b x

-- the same of values in a row
abbrev pub AreValuesOf : Work → Region → List code_binding.Binding → Values Identifier → Type 0
AreValuesOf work region bs vs = (v : ℕ) × AreValues work bs v vs × MayNameValues work region bs vs

-- what a variable stands for
abbrev pub IsBoundOne : Work → Region → code_binding.Binding → Binding Identifier Identifier → Type 0
IsBoundOne work region b m = (v : ℕ) × IsIdent work.symbols v m.variable × IsBoundTo work region b v m.value

abbrev pub AreManyBound : Work → Region → List code_binding.Binding → List (Binding Identifier Identifier) → Type 0
AreManyBound work region = Paired (IsBoundOne work region)

-- what the code has for a value
abbrev pub IsWorth : Work → Region → code_value.Value → Value Identifier → Type 0
IsWorth work region (worth.One n) (One t) = StandsFor work n t × CanName work region n
IsWorth work region (worth.One n) (Many vs) = ⊥
IsWorth work region (worth.Rest n from) (One t) = IsRest work n from t × CanName work region n
IsWorth work region (worth.Rest n from) (Many vs) = ⊥
IsWorth work region (worth.Many list) (One t) = ⊥
IsWorth work region (worth.Many list) (Many vs) = AreValuesOf work region list.now vs

-- a variable with what it stands for
abbrev pub IsBound : Work → Region → code.Bound → Binding Identifier Identifier → Type 0
IsBound work region b m = IsIdent work.symbols b.variable m.variable × IsWorth work region b.value m.value

abbrev pub AreBound : Work → Region → List code.Bound → List (Binding Identifier Identifier) → Type 0
AreBound work region = Paired (IsBound work region)

abbrev pub IsFound : Work → Region → Option code_value.Value → Option (Value Identifier) → Type 0
IsFound work region None None = Unit {0}
IsFound work region None (Some x) = ⊥
IsFound work region (Some v) None = ⊥
IsFound work region (Some v) (Some x) = IsWorth work region v x

-- what the first binding of a number says
abbrev pub value_by_number : List code.Bound → ℕ → Option code_value.Value
value_by_number [] n = None
value_by_number (b ∷ bs) n = if nat_eq n b.variable then Some b.value else value_by_number bs n

-- what the bindings of a number say
abbrev pub values_by_number : List code.Bound → ℕ → List code_value.Value
values_by_number [] n = []
values_by_number (b ∷ bs) n = if nat_eq n b.variable then b.value ∷ values_by_number bs n else values_by_number bs n

abbrev items_of : Option (Vec ℕ Global) → List ℕ
items_of None = []
items_of (Some v) = v.items

-- whether the binding at a place is of a number that passes
abbrev pub has_at : (ℕ → Bool) → List code.Bound → ℕ → Bool
has_at p [] q = false
has_at p (b ∷ bs) zero = p b.variable
has_at p (b ∷ bs) (suc q) = has_at p bs q

-- the places that a map has at a number
abbrev pub places_at : BTreeMap ℕ (Vec ℕ Global) → ℕ → List ℕ
places_at places n = items_of (get nat_cmp places n)

-- for each number it has the places of the bindings of that number
abbrev pub ArePlaces : List code.Bound → BTreeMap ℕ (Vec ℕ Global) → Type 0
ArePlaces bounds places = (n q : ℕ) → list_any (nat_eq q) (places_at places n) ≡ has_at (λ v. nat_eq v n) bounds q

abbrev pub with_one : Option code.Bound → List code.Bound → List code.Bound
with_one None bs = bs
with_one (Some b) bs = b ∷ bs

-- the bindings at these places, one after the other
abbrev pub bounds_at : List code.Bound → List ℕ → List code.Bound
bounds_at bs [] = []
bounds_at bs (k ∷ ks) = with_one (slice_get bs k) (bounds_at bs ks)

-- for each number it has what the first binding of that number says, and the places of all
pub record AreMapsOf (bounds : List code.Bound) (maps : code_maps.Maps) : Type 0 where
  pub values : (n : ℕ) → get nat_cmp maps.values n ≡ value_by_number bounds n
  pub places : ArePlaces bounds maps.places

-- the bindings as they stand, or maps of them
abbrev pub IsIndexOf : List code.Bound → code_index.Index → Type 0
IsIndexOf bounds (shape.Few few) = few.now ≡ bounds
IsIndexOf bounds (shape.Many maps) = AreMapsOf bounds maps

-- lengths differ, and nothing else is answered
abbrev pub Differ : {X : Type 0} → Option X → BuildFault → Type 0
Differ s fault.EllipsisLength = s ≡ None
Differ s fault.NodeBudget = ⊥
Differ s fault.DepthBudget = ⊥
Differ s fault.Full = ⊥
Differ s fault.Memory = ⊥

-- how many places there are so far, or that variables don't agree
abbrev pub Agrees : Option (Option ℕ) → Result (Option ℕ) BuildFault → Type 0
Agrees s (Ok places) = s ≡ Some places
Agrees s (Err e) = Differ s e

-- how many places an ellipsis has
abbrev pub HasPlaces : Option (Option ℕ) → Result ℕ BuildFault → Type 0
HasPlaces s (Ok n) = (places : Option ℕ) × (s ≡ Some places) × (n ≡ or_zero places)
HasPlaces s (Err e) = Differ s e
