use Rattle.declared_parts.proofs.again.has_answer_here.Goals as goal

pub returns-clause-later : goal.returns-clause-later
returns-clause-later c = λ v r m behind can is outside keeps. c.has_answer.ensures.answer v r m can is outside keeps
