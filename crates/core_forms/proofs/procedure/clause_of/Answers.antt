use Rattle.core_forms.proofs.procedure.clause_of.Goals as goal

pub returns-in-List-clause-named : goal.returns-in-List-clause-named
returns-in-List-clause-named c = λ region can. c.clause_in.ensures.named region (c.in-List.ensures.named region can).0
