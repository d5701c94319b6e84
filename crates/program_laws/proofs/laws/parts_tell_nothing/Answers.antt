use Rattle.std.proofs.Common.{List}
use Rattle.scheme_model.specs.Includes.{Document}
use Rattle.scheme_model.specs.Diagnostics.{Span}
use Rattle.program_laws.proofs.Parts.{parts_told}
use Rattle.program_laws.proofs.laws.parts_tell_nothing.Goals as goal

pub returns : goal.returns
returns c = λ (spans : List (List Span)) (ds : List Document). parts_told spans ds
