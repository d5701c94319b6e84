-- What is left of the program of a text that others include (R7RS 4.1.7): its forms, and nothing that comes of them.
use Rattle.std.specs.Prelude.{◌≡◌, true, List, [], None}
use Rattle.scheme_model.specs.Declarations.{is_part_kind}
use Rattle.scheme_model.specs.Program.{UnitResult, Program}
use Rattle.scheme_model.specs.Diagnostics.{Span, unit_diagnostics}

-- nothing is imported, comes of forms, or is exported
pub record IsNothing (r : UnitResult) : Type 0 where
  pub sets : r.sets ≡ []
  pub entries : r.entries ≡ []
  pub forms : r.forms ≡ []
  pub exports : r.exports ≡ []
  pub export_faults : r.export_faults ≡ []

-- nothing comes of a part, and nothing is told of it unless it is broken as a whole
abbrev pub TellsNothing : List (List Span) → Program → UnitResult → Type 0
TellsNothing spans p r = is_part_kind r.unit.placed.source.kind ≡ true → IsNothing r × (r.fault ≡ None → unit_diagnostics spans p r r.fault ≡ [])
