use Rattle.noted_steps.proofs.PlainSides.{run_same, item_same, run_start}
use Rattle.noted_steps.proofs.laws.runs_that_note.Goals as goal

pub returns : goal.returns
returns c = record { run = λ known turns p s. run_same known turns p s; item = λ known turns i s. item_same known turns i s; start = λ known turns p s. run_start known turns p s }
