use Rattle.session_serving.proofs.OneOutput.{one_output, front_of_output}
use Rattle.session_serving.proofs.SomeOutput.{some_output}
use Rattle.session_serving.proofs.laws.one_output.Goals as goal

pub returns : goal.returns
returns c = record { some = some_output; only = one_output; front = front_of_output }
