use Rattle.std.proofs.Common.{◌≡◌, [], List, take}
use Rattle.std.specs.FinMap.{entries}
use Rattle.read_documents.specs.Readings.{Read, AreReadAs}
use Rattle.rename_planner.specs.Planning.{errors_in}
use Rattle.rename_answers.specs.ReadDocuments.{read_as}
use Rattle.rename_planner.proofs.conditions.no_error.Given as goal

-- none of the units gone through has an Error
abbrev pub invariant-loop-unit : goal.invariant-loop-unit
invariant-loop-unit l = (rs : List Read) → AreReadAs (entries l.ws.texts) rs → errors_in (read_as (entries l.ws.texts) rs) (take l.unit-index l.units) ≡ []
