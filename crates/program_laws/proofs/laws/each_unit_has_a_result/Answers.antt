use Rattle.std.proofs.Common.{List}
use Rattle.scheme_model.specs.Includes.{Document}
use Rattle.program_laws.proofs.Results.{results_in_order}
use Rattle.program_laws.proofs.laws.each_unit_has_a_result.Goals as goal

pub returns : goal.returns
returns c = λ (ds : List Document). results_in_order ds
