use Rattle.program_answers.specs.ToldAnswers.{facts_in}
use Rattle.rename_planner.proofs.planning.named_members.Goals as goal

pub returns : goal.returns
returns c = λ ds rs o is apart. (rw c.as_slice.ensures at c.in_ok-members.ensures.exact) (facts_in rs).links o is.parts apart
