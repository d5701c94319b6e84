-- Declarations that include a text, which is refused.
use Rattle.std.specs.Prelude.{ℕ, suc, List, [], ◌∷◌, Some, None, if◌then◌else◌}
use Rattle.scheme_model.specs.Program.{is_include}
use Rattle.core_tree.specs.declared.traces.FormFault.{FormFault}
use Rattle.core_tree.specs.declared.units.UnitForm.{UnitForm}
use Rattle.unit_sources.specs.UnitsRead.{form_of}
use Rattle.unit_sources.specs.declared.units.UnitForm as source

-- it stands at the declaration's first token
abbrev pub refused_fault : (unit form : ℕ) → FormFault
refused_fault unit form = record { code = 48; name = None; occ = None; here = Some (record { unit = unit; form = form; token = 0 }); text = None }

abbrev pub refused_if : (unit form : ℕ) → source.UnitForm → UnitForm → UnitForm
refused_if unit form s c = if is_include (form_of s) then record c { fault = Some (refused_fault unit form) } else c

-- those forms that are read from these, from a number on
abbrev pub refused_forms : (unit form : ℕ) → List source.UnitForm → List UnitForm → List UnitForm
refused_forms unit form [] cs = cs
refused_forms unit form (s ∷ ss) [] = []
refused_forms unit form (s ∷ ss) (c ∷ cs) = refused_if unit form s c ∷ refused_forms unit (suc form) ss cs
