use Rattle.core_forms.proofs.rows.one_of.Goals as goal

pub returns-in-None-clause-named : goal.returns-in-None-clause-named
returns-in-None-clause-named c = λ region named. (c.in-Parts.ensures.named region named).0
