-- Where an included form is at home (R7RS 4.1.7).
use Rattle.std.specs.Prelude.{◌≡◌, ◌<◌, List, slice_get, true, Some}
use Rattle.scheme_model.specs.declared.Home.{Home}
use Rattle.scheme_model.specs.Declarations.{UnitForm, is_part_kind}
use Rattle.scheme_model.specs.Includes.{max_units}
use Rattle.scheme_model.specs.Program.{Prepared}

-- it is a form of a part of which the program isn't behind the most units: by the part's number, and by the form's in it
pub record IsFormOfPart (ps : List Prepared) (h : Home) : Type 0 where
  pub few : h.unit < max_units
  pub unit : Prepared
  pub there : slice_get ps h.unit ≡ Some unit
  pub part : is_part_kind unit.placed.source.kind ≡ true
  pub form : UnitForm
  pub form_there : slice_get unit.forms h.form ≡ Some form
