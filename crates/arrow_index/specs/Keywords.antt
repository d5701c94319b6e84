-- Where the keywords of units of the code stand: those of core forms and of macro uses.
use Rattle.std.specs.Prelude.{List, ◌++◌}
use Rattle.std.specs.List.{flat_map}
use Rattle.scheme_model.specs.declared.Occ.{Occ}
use Rattle.scheme_model.specs.ProgramArrows.{places_at}
use Rattle.core_tree.specs.declared.cores.Target.{Target}
use Rattle.core_tree.specs.declared.traces.MacroUse.{MacroUse}
use Rattle.core_tree.specs.declared.traces.Trace.{Trace}
use Rattle.core_tree.specs.declared.units.UnitForm.{UnitForm}
use Rattle.core_tree.specs.declared.units.Unit.{Unit as CodeUnit}
use Rattle.program_leaves.specs.Placed.{unless_fault}

abbrev pub core_places : List Target → List Occ
core_places ts = flat_map (λ (t : Target). places_at t.occ) ts

abbrev pub macro_places : List MacroUse → List Occ
macro_places us = flat_map (λ (u : MacroUse). places_at u.keyword.occ) us

abbrev pub trace_places : Trace → List Occ
trace_places t = core_places t.keywords ++ macro_places t.uses

-- a broken form has none
abbrev pub keyword_places : UnitForm → List Occ
keyword_places c = unless_fault c.fault (trace_places c.trace)

abbrev pub forms_keywords : List UnitForm → List Occ
forms_keywords cs = flat_map keyword_places cs

abbrev pub units_keywords : List CodeUnit → List Occ
units_keywords us = flat_map (λ (u : CodeUnit). forms_keywords u.forms) us
