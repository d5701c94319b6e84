use Rattle.noted_steps.proofs.defining.note_assigned.Goals as goal

pub returns-clause-noted : goal.returns-clause-noted
returns-clause-noted c = λ names r ms i out h is. c.assign.ensures.noted names r ms i h is
