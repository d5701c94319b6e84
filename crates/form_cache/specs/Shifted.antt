-- What is kept of a form, where its unit has another number of definitions before the form: what the form binds of the unit has other numbers, and all
-- else is as it was (R7RS 5.3).
use Rattle.std.specs.Prelude.{◌≡◌, ℕ, ◌+◌, ◌-◌, ◌^◌, min, map, Option, Some, None, Vec}
use Rattle.std.specs.declared.alloc.Global.{Global}
use Rattle.core_tree.specs.Names.{AllMatch}
use Rattle.core_tree.specs.declared.cores.Binder.{Binder}
use Rattle.core_tree.specs.declared.cores.Core.{Core}
use Rattle.core_tree.specs.declared.cores.Core.TheOpen.{CorePart-F}
use Rattle.core_tree.specs.declared.cores.Core.TheViews.{out-CorePart}
use Rattle.core_tree.specs.declared.cores.Clause.{Clause}
use Rattle.core_tree.specs.declared.cores.CorePart.{CorePart}
use Rattle.core_tree.specs.declared.cores.CorePart.TheVariants as parts
use Rattle.core_tree.specs.declared.units.ExpandedItem.{ExpandedItem}
use Rattle.form_parts.specs.declared.items.Item.{Item}
use Rattle.form_parts.specs.declared.items.Kept.{Kept}
use Rattle.form_parts.specs.declared.items.Kept.TheVariants as kept
use Rattle.form_parts.specs.declared.items.Left.{Left}
use Rattle.form_cache.specs.declared.shift.Shift.{Shift}

-- the number of a definition, as far as it fits
abbrev pub shifted : Shift → ℕ → ℕ
shifted s n = min (n - s.before + s.to) (2 ^ 64 - 1)

abbrev pub binder_shifted : Shift → Binder → Binder
binder_shifted s b = record b { number = shifted s b.number }

abbrev pub BindersShift : Shift → Vec Binder Global → Vec Binder Global → Type 0
BindersShift s bs cs = cs.items ≡ map (binder_shifted s) bs.items

-- what was set aside becomes this
abbrev pub KeptShifts : Shift → Kept → Kept → Type 0
KeptShifts s (kept.Expression f) j = j ≡ kept.Expression f
KeptShifts s (kept.Value b f) j = j ≡ kept.Value (binder_shifted s b) f
KeptShifts s (kept.Function b here c) j = j ≡ kept.Function (binder_shifted s b) here c
KeptShifts s (kept.Assigned n f) j = j ≡ kept.Assigned n f
KeptShifts s (kept.AssignedFunction n here c) j = j ≡ kept.AssignedFunction n here c
KeptShifts s (kept.Values bs dotted f) j = (cs : Vec Binder Global) × (j ≡ kept.Values cs dotted f) × BindersShift s bs cs
KeptShifts s (kept.Record bs fs ms us) j = (cs : Vec Binder Global) × (j ≡ kept.Record cs fs ms us) × BindersShift s bs cs
KeptShifts s (kept.Macro b m) j = j ≡ kept.Macro (binder_shifted s b) m

abbrev pub ItemShifts : Shift → Item → Item → Type 0
ItemShifts s x y = KeptShifts s x.kept y.kept

abbrev pub LeftShifts : Shift → Option Left → Option Left → Type 0
LeftShifts s None o = o ≡ None
LeftShifts s (Some x) o = (y : Left) × (o ≡ Some y) × (y.uses ≡ x.uses) × AllMatch (ItemShifts s) x.items y.items

-- a part of the unit becomes this: all that is bound inside is local, and stays
abbrev pub OpenShifts : Shift → CorePart-F Core CorePart Clause → CorePart → Type 0
OpenShifts s (CorePart-F.Expression c) q = q ≡ parts.Expression c
OpenShifts s (CorePart-F.Define b c) q = q ≡ parts.Define (binder_shifted s b) c
OpenShifts s (CorePart-F.Values bs dotted c) q = (cs : Vec Binder Global) × (q ≡ parts.Values cs dotted c) × BindersShift s bs cs
OpenShifts s (CorePart-F.Fields bs fs ms us) q = (cs : Vec Binder Global) × (q ≡ parts.Fields cs fs ms us) × BindersShift s bs cs
OpenShifts s (CorePart-F.Syntax d) q = q ≡ parts.Syntax (record d { binder = binder_shifted s d.binder })

abbrev pub PartShifts : Shift → CorePart → CorePart → Type 0
PartShifts s p q = OpenShifts s (out-CorePart p) q

abbrev pub ExpandedShifts : Shift → ExpandedItem → ExpandedItem → Type 0
ExpandedShifts s x y = PartShifts s x.part y.part
