use Rattle.noted_steps.proofs.defining.note_made.Goals as goal

pub returns-clause-noted : goal.returns-clause-noted
returns-clause-noted c = λ r ms fs x rules ns keyword out h is none. c.define.ensures.defined r ms fs x rules ns keyword h is none
