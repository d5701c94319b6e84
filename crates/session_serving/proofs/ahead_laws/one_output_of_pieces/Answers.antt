use Rattle.session_serving.proofs.OneOutput.{front_of_output_by, one_output_by}
use Rattle.session_serving.proofs.SomeOutput.{some_output_by}
use Rattle.session_serving.proofs.ahead_laws.one_output_of_pieces.Goals as goal

pub returns : goal.returns
returns c = record { some = some_output_by; only = one_output_by; front = front_of_output_by }
