-- The identifiers of units as the code keeps them, by the numbers of their tokens.
use Rattle.std.specs.Prelude.{ℕ, ◌-◌, List, map, Option}
use Rattle.std.specs.List.{flat_map}
use Rattle.std.specs.Global.{Box}
use Rattle.scheme_model.specs.declared.Occ.{Occ}
use Rattle.scheme_model.specs.Data.{Datum}
use Rattle.datum_reader.specs.Views.{end_data}
use Rattle.datum_reader.specs.declared.datum.Datum as code
use Rattle.scheme_model.specs.Sites.{name_tokens, name_tokens_all}

-- a token of a form whose first token has this number
abbrev pub occ_in : (unit form first token : ℕ) → Occ
occ_in unit form first token = record { unit = unit; form = form; token = token - first }

abbrev pub occs_in : (unit form first : ℕ) → List ℕ → List Occ
occs_in unit form first tokens = map (occ_in unit form first) tokens

abbrev pub all_names : List Datum → List ℕ
all_names ds = flat_map name_tokens ds

abbrev pub end_names : Option (Box code.Datum) → List ℕ
end_names end = name_tokens_all (end_data end)
