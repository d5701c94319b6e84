use Rattle.std.proofs.Common.{List}
use Rattle.scheme_model.specs.Includes.{Document}
use Rattle.scheme_model.specs.Diagnostics.{Span}
use Rattle.program_laws.specs.Turns.{AreBounded}
use Rattle.program_laws.proofs.Programs.{program_done}
use Rattle.program_laws.proofs.Codes.{diagnostics_have}
use Rattle.program_laws.proofs.laws.turns_suffice.Goals as goal

pub returns : goal.returns
returns c = record {
  forms = λ (ds : List Document) (h : AreBounded ds). program_done ds h;
  codes = λ (spans : List (List Span)) (ds : List Document) (h : AreBounded ds). diagnostics_have spans ds h;
}
