-- The forms of a unit that are worked on (R7RS 4.1.7, 5.1), as the code has them.
use Rattle.std.specs.Prelude.{List, [], if◌then◌else◌}
use Rattle.scheme_model.specs.Declarations.{is_part_kind}
use Rattle.core_tree.specs.Units.{kind_as}
use Rattle.unit_sources.specs.declared.units.UnitForm.{UnitForm}
use Rattle.unit_sources.specs.declared.units.UnitSource.{UnitSource}

-- those of a part are worked on where it is included
abbrev pub worked_forms : UnitSource → List UnitForm
worked_forms s = if is_part_kind (kind_as s.kind) then [] else s.forms
