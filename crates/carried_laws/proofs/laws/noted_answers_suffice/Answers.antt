use Rattle.carried_laws.proofs.ClosedForms.{program_closed, closed_new}
use Rattle.carried_laws.proofs.NotedEntries.{answers_told}
use Rattle.carried_laws.proofs.laws.noted_answers_suffice.Goals as goal

pub returns : goal.returns
returns c = record {
  answers = λ n k w u g st at closed has. answers_told n k w u g st at closed has;
  stands = λ ds. program_closed ds;
  new_numbers = λ r b w h. closed_new r b w h;
}
