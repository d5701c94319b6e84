-- What the values of the code become under other numbers: cores level by level, and what a form is. Only what binds, uses or places something
-- changes; trees and numbers in tables stay.
use Rattle.std.specs.Prelude.{map, Vec}
use Rattle.std.specs.Option.{option_map}
use Rattle.std.specs.declared.alloc.Global.{Global}
use Rattle.std.specs.formers.vec.Vec.{mapped}
use Rattle.core_tree.specs.declared.cores.MacroDef.{MacroDef}
use Rattle.core_tree.specs.declared.cores.Core.{Core, fold-Core}
use Rattle.core_tree.specs.declared.cores.Core.TheVariants as cores
use Rattle.core_tree.specs.declared.cores.Core.TheOpen.{Core-F, CorePart-F, Clause-F}
use Rattle.core_tree.specs.declared.cores.Clause.{Clause, roll-Clause, fold-Clause}
use Rattle.core_tree.specs.declared.cores.CorePart.{CorePart, fold-CorePart}
use Rattle.core_tree.specs.declared.cores.CorePart.TheVariants as parts
use Rattle.core_tree.specs.declared.traces.MacroUse.{MacroUse}
use Rattle.core_tree.specs.declared.traces.Trace.{Trace}
use Rattle.core_tree.specs.declared.traces.FormFault.{FormFault}
use Rattle.core_tree.specs.declared.units.ExpandedItem.{ExpandedItem}
use Rattle.core_tree.specs.declared.units.UnitForm.{UnitForm}
use Rattle.core_tree.specs.declared.units.Unit as units
use Rattle.core_tree.specs.declared.units.Program.{Program}
use Rattle.renumbering_laws.specs.Renumbering.{Renumbering, place}
use Rattle.moved_numbers.specs.Leaves.{binder_as, target_as, leaf_as, field_as}
use Rattle.moved_numbers.specs.Notes.{note_as}

-- each element changes where it stands, in the same memory
abbrev pub each : {X : Type 0} → (X → X) → Vec X Global → Vec X Global
each f v = mapped f v

-- ---- cores

abbrev pub macro_as : Renumbering → MacroDef → MacroDef
macro_as r m = record m { binder = binder_as r m.binder; leaves = each (leaf_as r) m.leaves }

-- one level, where all inside is under the new numbers already
abbrev pub core_step : Renumbering → Core-F Core CorePart Clause → Core
core_step r (Core-F.Ref t) = cores.Ref (target_as r t)
core_step r (Core-F.Const n) = cores.Const n
core_step r (Core-F.Quote n) = cores.Quote n
core_step r (Core-F.Quasi n places cs) = cores.Quasi n places cs
core_step r (Core-F.Lambda c) = cores.Lambda c
core_step r (Core-F.CaseLambda cs) = cores.CaseLambda cs
core_step r (Core-F.If cs) = cores.If cs
core_step r (Core-F.Set t c) = cores.Set (target_as r t) c
core_step r (Core-F.Call cs) = cores.Call cs
core_step r (Core-F.Body ps) = cores.Body ps
core_step r (Core-F.LetSyntax ms c) = cores.LetSyntax (each (macro_as r) ms) c

abbrev pub part_step : Renumbering → CorePart-F Core CorePart Clause → CorePart
part_step r (CorePart-F.Expression c) = parts.Expression c
part_step r (CorePart-F.Define b c) = parts.Define (binder_as r b) c
part_step r (CorePart-F.Values bs dotted c) = parts.Values (each (binder_as r) bs) dotted c
part_step r (CorePart-F.Fields bs fs modified us) = parts.Fields (each (binder_as r) bs) (each (binder_as r) fs) modified (each (field_as r) us)
part_step r (CorePart-F.Syntax m) = parts.Syntax (macro_as r m)

abbrev pub clause_step : Renumbering → Clause-F Core CorePart Clause → Clause
clause_step r c = roll-Clause (record { binders = each (binder_as r) c.binders; dotted = c.dotted; body = c.body })

abbrev pub core_as : Renumbering → Core → Core
core_as r = fold-Core Core CorePart Clause (core_step r) (part_step r) (clause_step r)

abbrev pub part_as : Renumbering → CorePart → CorePart
part_as r = fold-CorePart Core CorePart Clause (core_step r) (part_step r) (clause_step r)

abbrev pub clause_as : Renumbering → Clause → Clause
clause_as r = fold-Clause Core CorePart Clause (core_step r) (part_step r) (clause_step r)

-- ---- forms

abbrev pub item_as : Renumbering → ExpandedItem → ExpandedItem
item_as r i = record i { part = part_as r i.part }

abbrev pub use_as : Renumbering → MacroUse → MacroUse
use_as r u = record { keyword = target_as r u.keyword; literals = each (target_as r) u.literals }

abbrev pub fault_as : Renumbering → FormFault → FormFault
fault_as r e = record e { occ = place r e.occ; here = place r e.here }

abbrev pub trace_as : Renumbering → Trace → Trace
trace_as r t = record {
  definitions = map (binder_as r) t.definitions;
  keywords = map (target_as r) t.keywords;
  uses = map (use_as r) t.uses;
  notes = record t.notes { notes = map (note_as r) t.notes.notes };
}

abbrev pub form_as : Renumbering → UnitForm → UnitForm
form_as r f = record { items = map (item_as r) f.items; trace = trace_as r f.trace; fault = option_map (fault_as r) f.fault }

-- of a unit its forms alone change
abbrev pub unit_as : Renumbering → units.Unit → units.Unit
unit_as r u = record u { forms = map (form_as r) u.forms }

abbrev pub program_as : Renumbering → Program → Program
program_as r p = record { units = map (unit_as r) p.units }
