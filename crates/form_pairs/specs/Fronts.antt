-- Forms of two units that are the same from their ends on.
use Rattle.std.specs.Prelude.{ℕ, suc, ◌-◌, List, [], ◌∷◌, ◌++◌, length, Bool, if◌then◌else◌}
use Rattle.std.specs.Str.{bytes_eq}
use Rattle.scheme_model.specs.Order.{is_some}
use Rattle.unit_sources.specs.declared.units.UnitForm.{UnitForm}
use Rattle.carried_forms.specs.Alike.{same_tree}
use Rattle.carried_forms.specs.Paired.{in_step}
use Rattle.form_pairs.specs.Units.{form_as, forms_in}
use Rattle.form_pairs.specs.declared.forms.Runs.{Runs}
use Rattle.form_pairs.specs.declared.units.Side.{Side}

abbrev pub front_of : List UnitForm → List UnitForm → ℕ
front_of [] gs = 0
front_of (f ∷ fs) [] = 0
front_of (f ∷ fs) (g ∷ gs) = if same_tree bytes_eq (form_as f) (form_as g) then suc (front_of fs gs) else 0

abbrev pub is_included : UnitForm → Bool
is_included f = is_some f.home

-- of so many forms before and after those at the front and those at the end
abbrev pub runs : (before after front end : ℕ) → List (ℕ × ℕ)
runs before after front end = in_step 0 0 front ++ in_step (before - end) (after - end) end

abbrev pub runs_in : Side → Side → Runs → List (ℕ × ℕ)
runs_in b a r = runs (length (forms_in b.units.now b.unit)) (length (forms_in a.units.now a.unit)) r.front r.end
