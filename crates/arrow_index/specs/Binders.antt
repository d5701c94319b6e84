-- Where definitions of units stand, and the binders of pairs that point to an occurrence.
use Rattle.std.specs.Prelude.{List, [], ◌∷◌, if◌then◌else◌}
use Rattle.std.specs.List.{flat_map}
use Rattle.scheme_model.specs.declared.Occ.{Occ}
use Rattle.scheme_model.specs.Entries.{same_occ}
use Rattle.scheme_model.specs.ProgramArrows.{places_at}
use Rattle.core_tree.specs.declared.cores.Binder.{Binder}
use Rattle.core_tree.specs.declared.units.UnitForm.{UnitForm}
use Rattle.core_tree.specs.declared.units.Unit.{Unit as CodeUnit}
use Rattle.program_leaves.specs.declared.pairs.Pair.{Pair}

abbrev pub defined_places : List Binder → List Occ
defined_places bs = flat_map (λ (b : Binder). places_at b.occ) bs

abbrev pub form_places : List UnitForm → List Occ
form_places cs = flat_map (λ (c : UnitForm). defined_places c.trace.definitions) cs

abbrev pub unit_places : List CodeUnit → List Occ
unit_places us = flat_map (λ (u : CodeUnit). form_places u.forms) us

abbrev pub binders_with : Occ → Pair → List Occ
binders_with o p = if same_occ p.target o then p.binder ∷ [] else []

abbrev pub targets_with : Occ → Pair → List Occ
targets_with b p = if same_occ p.binder b then p.target ∷ [] else []
