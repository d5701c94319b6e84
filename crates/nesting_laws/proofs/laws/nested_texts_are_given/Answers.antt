use Rattle.nesting_laws.proofs.Depth.{gives_forms, gives_declarations}
use Rattle.nesting_laws.proofs.laws.nested_texts_are_given.Goals as goal

pub returns-clause-forms : goal.returns-clause-forms
returns-clause-forms c = λ o whole n m s means can. gives_forms o whole n m s means can

pub returns-clause-declarations : goal.returns-clause-declarations
returns-clause-declarations c = λ o whole n m s means can. gives_declarations o whole n m s means can
