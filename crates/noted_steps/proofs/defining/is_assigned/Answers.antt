use Rattle.noted_steps.specs.Noting.{state_of}
use Rattle.noted_steps.proofs.DefineSteps.{assigned_ends}
use Rattle.noted_steps.proofs.NoteLaws.{plainly}
use Rattle.noted_steps.proofs.defining.is_assigned.Goals as goal

pub returns-clause-assigned : goal.returns-clause-assigned
returns-clause-assigned c = λ known work ls s fs i e placed is. c.is_assigned-answer.ensures work ls (state_of s) fs i (plainly work c.args.units.now ls s e) placed is

pub returns-clause-noted : goal.returns-clause-noted
returns-clause-noted c = λ known work ls s fs i e placed is.
    assigned_ends known work c.args.units.now c.note_assigned.new.units ls s c.args.spot fs i c.is_assigned-answer.result e placed c.note_assigned.ensures.rest c.note_assigned.ensures.inside c.note_assigned.ensures.start
    (c.is_assigned-answer.ensures work ls (state_of s) fs i (plainly work c.args.units.now ls s e) placed is)
    (λ r ms out h. c.note_assigned.ensures.noted work.symbols r ms i out h is)
