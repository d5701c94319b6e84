-- What is set aside binds: in a unit definitions of it, in a body locals.
use Rattle.std.specs.Prelude.{List, [], ◌∷◌, Bool, true, Result, Ok, Err}
use Rattle.scheme_model.specs.Order.{Item, Expression, Value, Function, Assigned, AssignedFunction, ValuesOf, Record, Macro}
use Rattle.core_tree.specs.Levels.{BindsAs, AllBind}

-- this holds of a result, where there is one
abbrev pub OfOk : {X Y : Type 0} → (X → Type 0) → Result X Y → Type 0
OfOk P (Ok x) = P x
OfOk P (Err e) = Unit {0}

abbrev pub ItemBinds : {A : Type 0} → (local : Bool) → Item A → Type 0
ItemBinds local (Expression form) = Unit {0}
ItemBinds local (Value b form) = BindsAs local b.bound
ItemBinds local (Function b here c) = BindsAs local b.bound
ItemBinds local (Assigned n form) = Unit {0}
ItemBinds local (AssignedFunction n here c) = Unit {0}
ItemBinds local (ValuesOf bs form) = AllBind local bs.names
ItemBinds local (Record r) = AllBind local r.binders × AllBind true r.fields
ItemBinds local (Macro b here) = BindsAs local b.bound

abbrev pub ItemsBind : {A : Type 0} → (local : Bool) → List (Item A) → Type 0
ItemsBind local [] = Unit {0}
ItemsBind local (i ∷ is) = ItemBinds local i × ItemsBind local is
